use Rattle.std.proofs.Common.{◌≡◌, length}
use Rattle.search_laws.specs.record_trees.Record.{are_in_order}
use Rattle.seeded_search.proofs.sums.are_in_order.Given as goal

abbrev pub invariant-loop-rest : goal.invariant-loop-rest
invariant-loop-rest l = are_in_order 0 l.picks ≡ are_in_order l.from l.rest

abbrev pub decreases-loop-rest : goal.decreases-loop-rest
decreases-loop-rest l = length l.rest
