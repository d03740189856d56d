use Rattle.std.proofs.Common.{◌∙◌, ap₂}
use Rattle.std.proofs.lemmas.Result.{IfOk-weaker}
use Rattle.clap.specs.Words.{with_rule}
use Rattle.command_words.specs.Words.{export}
use Rattle.command_words.proofs.commands.export_command.Goals as goal

pub returns : goal.returns
unfolding export
returns c =
    let with_form = c.in_ok-with_form.ensures.shape c.choice.ensures.local ∙ ap₂ with_rule c.in_ok-with_setting.ensures c.choice.ensures.rule in
    let with_ego = c.in_ok-with_ego.ensures.shape c.text.ensures.local ∙ ap₂ with_rule with_form c.text.ensures.rule in
    IfOk-weaker c.arg-3.result _ _ (λ r added. added.shape c.number.ensures.local ∙ ap₂ with_rule with_ego c.number.ensures.rule) c.arg-3.ensures
