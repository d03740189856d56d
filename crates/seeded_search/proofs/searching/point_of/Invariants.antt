use Rattle.std.proofs.Common.{◌≡◌, ℕ, ◌<◌, length, get_or, pos}
use Rattle.box_eval.specs.Box.{low_at}
use Rattle.bound_trail.specs.History.{present}
use Rattle.seeded_search.proofs.searching.point_of.Given as goal

abbrev pub invariant-loop-slot : goal.invariant-loop-slot
invariant-loop-slot l = (length l.values.items ≡ length (present l.trail)) × ((k : ℕ) → k < l.slot → get_or l.values.items k (pos 0) ≡ low_at (present l.trail) k)
