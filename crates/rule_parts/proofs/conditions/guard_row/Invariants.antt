use Rattle.std.proofs.Common.{◌≡◌, map, take}
use Rattle.box_eval.specs.FlatRules.{flat_rule}
use Rattle.scene_slots.specs.field_flatten.Rules.{presence_rules}
use Rattle.scene_slots.specs.SeenSlots.{layout_of}
use Rattle.rule_parts.proofs.conditions.guard_row.Given as goal

abbrev pub invariant-guards : goal.invariant-guards
invariant-guards l = map flat_rule l.row.items ≡ presence_rules (layout_of l.slots) (take l.guard-index l.guards)
