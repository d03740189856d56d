use Rattle.slot_ends.specs.field_flatten.Rules.{arranged_rule}
use Rattle.slot_ends.specs.scene_slots.SeenSlots.{scene_of, layout_of}
use Rattle.flat_forms.proofs.RowSteps.{rule_more}
use Rattle.flat_forms.proofs.rules.push_phases.Goals as goal

pub phases-preserved : goal.phases-preserved
phases-preserved c =
    rule_more (arranged_rule (scene_of c.args.slots.now) (layout_of c.args.slots.now)) c.args.phases.now c.phases.phase-index c.phase-item.result _ _ _ _
    c.phases-test.true c.phase-item.is c.phases.invariant c.in_ok-push.ensures.ok c.in_ok-arranged_rule.ensures
