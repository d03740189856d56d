use Rattle.std.proofs.Common.{◌≡◌, map, take}
use Rattle.box_eval.specs.FlatRules.{flat_rule, Slot}
use Rattle.rule_parts.specs.field_flatten.Rules.{overlap_rules}
use Rattle.scene_rules.proofs.spans.overlap_rules.Given as goal

abbrev pub invariant-starts : goal.invariant-starts
invariant-starts l = map flat_rule l.row.items ≡ overlap_rules (map Slot (take l.start-index l.starts)) (map Slot l.ends)
