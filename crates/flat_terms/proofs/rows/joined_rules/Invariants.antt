use Rattle.std.proofs.Common.{◌≡◌, map, length}
use Rattle.box_eval.specs.FlatRules.{flat_rule, joined}
use Rattle.flat_terms.specs.Joins.{rule_join, no_rules}
use Rattle.flat_terms.proofs.rows.joined_rules.Given as goal

abbrev pub invariant-rounds : goal.invariant-rounds
invariant-rounds l = joined (rule_join l.by) (no_rules l.by) (map flat_rule l.row.items) ≡ joined (rule_join l.by) (no_rules l.by) (map flat_rule l.fn.row.items)

abbrev pub decreases-rounds : goal.decreases-rounds
decreases-rounds l = length l.row.items
