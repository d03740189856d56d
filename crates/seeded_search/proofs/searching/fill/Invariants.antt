use Rattle.std.proofs.Common.{◌≡◌, ℕ, ◌<◌, true}
use Rattle.wake_ring.specs.Queue.{is_in}
use Rattle.seeded_search.proofs.searching.fill.Given as goal

abbrev pub invariant-loop-number : goal.invariant-loop-number
invariant-loop-number l = (l.ring.bound ≡ l.initial.ring.bound) × ((k : ℕ) → k < l.number → is_in k l.ring.items ≡ true)
