use Rattle.std.proofs.Common.{◌∙◌, ap₂}
use Rattle.std.proofs.lemmas.Result.{IfOk-weaker}
use Rattle.clap.specs.Words.{with_rule}
use Rattle.command_words.specs.Words.{make}
use Rattle.command_words.proofs.commands.make_command.Goals as goal

pub returns : goal.returns
unfolding make
returns c =
    IfOk-weaker c.arg.result _ _ (λ r added. added.shape c.number_word.ensures.local ∙ ap₂ with_rule c.bare_command.ensures c.number_word.ensures.rule) c.arg.ensures
