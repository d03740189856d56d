use Rattle.std.proofs.Common.{◌∙◌, ap₂}
use Rattle.std.proofs.lemmas.Result.{IfOk-weaker}
use Rattle.clap.specs.Words.{with_rule}
use Rattle.command_words.specs.Words.{generate}
use Rattle.command_words.proofs.commands.generate_command.Goals as goal

pub returns : goal.returns
unfolding generate
returns c =
    let with_seed = c.in_ok-with_seed.ensures.shape c.number.ensures.local ∙ ap₂ with_rule c.in_ok-with_setting.ensures c.number.ensures.rule in
    let with_cuts = c.in_ok-with_cuts.ensures.shape c.number-2.ensures.local ∙ ap₂ with_rule with_seed c.number-2.ensures.rule in
    IfOk-weaker c.arg-3.result _ _ (λ r added. added.shape c.number-3.ensures.local ∙ ap₂ with_rule with_cuts c.number-3.ensures.rule) c.arg-3.ensures
