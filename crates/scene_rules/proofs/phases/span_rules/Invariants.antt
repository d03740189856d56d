use Rattle.std.proofs.Common.{◌≡◌, map, take}
use Rattle.box_eval.specs.FlatRules.{flat_rule}
use Rattle.rule_parts.specs.field_flatten.Rules.{span_rule}
use Rattle.rule_parts.specs.scene_slots.SeenSlots.{layout_of}
use Rattle.scene_rules.proofs.phases.span_rules.Given as goal

abbrev pub invariant-members : goal.invariant-members
invariant-members l = map flat_rule l.row.items ≡ map (λ m. span_rule (layout_of l.slots) m l.whole) (take l.member-index l.members)
