use Rattle.std.proofs.Common.{◌≡◌, ◌++◌, map, drop}
use Rattle.box_eval.specs.FlatRules.{flat_rule}
use Rattle.rule_parts.specs.field_flatten.Rules.{chosen_rules}
use Rattle.rule_parts.specs.scene_slots.SeenSlots.{layout_of}
use Rattle.scene_rules.proofs.phases.chosen_rules.Given as goal

abbrev pub invariant-members : goal.invariant-members
invariant-members l =
    map flat_rule l.row.items ++ chosen_rules (layout_of l.slots) l.whole l.number (drop l.number l.members) ≡ chosen_rules (layout_of l.slots) l.whole 0 l.members
