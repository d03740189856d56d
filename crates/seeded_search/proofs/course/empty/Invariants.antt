use Rattle.std.proofs.Common.{◌≡◌, length}
use Rattle.seeded_search.proofs.course.empty.Given as goal

abbrev pub invariant-loop : goal.invariant-loop
invariant-loop l = l.ring.bound ≡ l.initial.ring.bound

abbrev pub decreases-loop : goal.decreases-loop
decreases-loop l = length l.ring.items
