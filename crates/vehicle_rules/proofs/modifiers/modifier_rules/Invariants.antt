use Rattle.std.proofs.Common.{◌≡◌, ◌++◌, map}
use Rattle.std.specs.List.{range_with_len}
use Rattle.box_eval.specs.FlatRules.{flat_rule}
use Rattle.rule_parts.specs.composition.SeenParts.{seen_modifier}
use Rattle.rule_parts.specs.field_flatten.Rules.{modifier_rule}
use Rattle.rule_parts.specs.scene_slots.SeenSlots.{scene_of, layout_of}
use Rattle.vehicle_rules.proofs.modifiers.modifier_rules.Given as goal

abbrev pub invariant-ticks : goal.invariant-ticks
invariant-ticks l =
    map flat_rule l.rules ≡ map flat_rule l.fn.rules ++ map (modifier_rule (scene_of l.slots) (layout_of l.slots) (seen_modifier l.modifier)) (range_with_len 0 l.tick)
