use Rattle.std.proofs.Common.{◌≡◌, map, take}
use Rattle.box_eval.specs.FlatRules.{flat_rule}
use Rattle.scene_slots.specs.field_flatten.Rules.{presence_rules}
use Rattle.scene_conditions.specs.SeenConditions.{seen_condition}
use Rattle.scene_slots.specs.SeenSlots.{layout_of}
use Rattle.rule_parts.proofs.conditions.condition_row.Given as goal

abbrev pub invariant-conditions : goal.invariant-conditions
invariant-conditions l = map flat_rule l.row.items ≡ presence_rules (layout_of l.slots) (map seen_condition (take l.condition-index l.conditions))
