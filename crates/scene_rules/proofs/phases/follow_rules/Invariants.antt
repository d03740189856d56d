use Rattle.std.proofs.Common.{◌≡◌, ◌++◌, map, drop}
use Rattle.box_eval.specs.FlatRules.{flat_rule, Slot}
use Rattle.rule_parts.specs.field_flatten.Rules.{follow_rules}
use Rattle.rule_parts.specs.scene_slots.SeenSlots.{layout_of}
use Rattle.scene_rules.proofs.phases.follow_rules.Given as goal

abbrev pub invariant-members : goal.invariant-members
invariant-members l = map flat_rule l.row.items ++ follow_rules (layout_of l.slots) (Slot l.last) (Slot l.to) (drop l.member-index l.members) ≡ follow_rules (layout_of l.slots) (Slot l.fn.from) (Slot l.to) l.members
