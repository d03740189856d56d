use Rattle.rule_parts.specs.field_flatten.Rules.{motion_rule}
use Rattle.rule_parts.specs.scene_slots.SeenSlots.{scene_of, layout_of}
use Rattle.vehicle_rules.proofs.TickRows.{one_more_tick}
use Rattle.vehicle_rules.proofs.motion.motion_rules.Goals as goal

pub ticks-preserved : goal.ticks-preserved
ticks-preserved c =
    one_more_tick _ _ _ (motion_rule (scene_of c.args.slots.now) (layout_of c.args.slots.now) c.args.vehicle.now) c.ticks.tick _ c.ticks.invariant
    c.in_ok-push.ensures.ok c.in_ok-motion_rule.ensures
