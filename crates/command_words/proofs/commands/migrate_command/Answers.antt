use Rattle.std.proofs.Common.{◌∙◌, ap₂}
use Rattle.std.proofs.lemmas.Result.{IfOk-weaker}
use Rattle.clap.specs.Words.{with_rule}
use Rattle.command_words.specs.Words.{migrate}
use Rattle.command_words.proofs.commands.migrate_command.Goals as goal

pub returns : goal.returns
unfolding migrate
returns c =
    IfOk-weaker c.arg.result _ _ (λ r added. added.shape c.word.ensures.local ∙ ap₂ with_rule c.bare_command.ensures c.word.ensures.rule) c.arg.ensures
