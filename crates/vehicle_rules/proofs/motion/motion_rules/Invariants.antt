use Rattle.std.proofs.Common.{◌≡◌, ◌++◌, map}
use Rattle.std.specs.List.{range_with_len}
use Rattle.box_eval.specs.FlatRules.{flat_rule}
use Rattle.rule_parts.specs.field_flatten.Rules.{motion_rule}
use Rattle.rule_parts.specs.scene_slots.SeenSlots.{scene_of, layout_of}
use Rattle.vehicle_rules.proofs.motion.motion_rules.Given as goal

abbrev pub invariant-ticks : goal.invariant-ticks
invariant-ticks l =
    map flat_rule l.rules ≡ map flat_rule l.fn.rules ++ map (motion_rule (scene_of l.slots) (layout_of l.slots) l.vehicle) (range_with_len 0 l.tick)
