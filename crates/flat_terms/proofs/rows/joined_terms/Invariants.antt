use Rattle.std.proofs.Common.{◌≡◌, map, length}
use Rattle.box_eval.specs.FlatRules.{flat_term, joined}
use Rattle.flat_terms.specs.Joins.{term_join, no_terms}
use Rattle.flat_terms.proofs.rows.joined_terms.Given as goal

abbrev pub invariant-rounds : goal.invariant-rounds
invariant-rounds l = joined (term_join l.by) (no_terms l.by) (map flat_term l.row.items) ≡ joined (term_join l.by) (no_terms l.by) (map flat_term l.fn.row.items)

abbrev pub decreases-rounds : goal.decreases-rounds
decreases-rounds l = length l.row.items
