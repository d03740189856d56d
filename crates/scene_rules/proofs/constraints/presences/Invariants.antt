use Rattle.std.proofs.Common.{◌≡◌, map, take}
use Rattle.box_eval.specs.FlatRules.{flat_rule}
use Rattle.rule_parts.specs.field_flatten.Rules.{presence_of_number}
use Rattle.rule_parts.specs.scene_slots.SeenSlots.{scene_of, layout_of}
use Rattle.scene_rules.proofs.constraints.presences.Given as goal

abbrev pub invariant-numbers : goal.invariant-numbers
invariant-numbers l = map flat_rule l.row.items ≡ map (presence_of_number (scene_of l.slots) (layout_of l.slots)) (take l.number-index l.numbers)
