use Rattle.std.proofs.Common.{◌∙◌, ap, ap₂, map}
use Rattle.std.proofs.lemmas.Result.{IfOk-weaker}
use Rattle.box_eval.specs.FlatRules.{Slot}
use Rattle.rule_parts.specs.field_flatten.Rules.{overlap_rules}
use Rattle.scene_rules.proofs.spans.shared_tick.Goals as goal

pub returns : goal.returns
returns c =
    IfOk-weaker c.overlap_rules.result _ _
    (λ r h. h ∙ ap₂ overlap_rules (ap (map Slot) c.as_slice.ensures.value ∙ c.in_ok-starts.ensures) (ap (map Slot) c.as_slice-2.ensures.value ∙ c.in_ok-ends.ensures))
    c.overlap_rules.ensures
