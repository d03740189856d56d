use Rattle.std.proofs.Common.{◌≡◌, ◌-◌, ◌+◌, ℕ, [], length, slice_index_or}
use Rattle.cond_inherit.proofs.subtypes.grow.Given as goal

abbrev pub invariant-rows : goal.invariant-rows
invariant-rows l = (t : ℕ) → slice_index_or l.rows.items t [] ≡ slice_index_or l.fn.rows.items t []

abbrev pub decreases-rows : goal.decreases-rows
decreases-rows l = l.fn.of + 1 - length l.rows.items
