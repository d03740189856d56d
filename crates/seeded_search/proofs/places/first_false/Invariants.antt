use Rattle.std.proofs.Common.{◌≡◌, ℕ, ◌<◌, false}
use Rattle.search_laws.specs.record_trees.Record.{may_close}
use Rattle.bound_trail.specs.History.{present}
use Rattle.seeded_search.proofs.places.first_false.Given as goal

abbrev pub invariant-loop-number : goal.invariant-loop-number
invariant-loop-number l = (j : ℕ) → j < l.number → may_close l.flat.rules (present l.trail) j ≡ false
