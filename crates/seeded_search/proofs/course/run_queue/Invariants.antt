use Rattle.std.proofs.Common.{◌≡◌, length}
use Rattle.seeded_search.specs.Runs.{Runs}
use Rattle.seeded_search.proofs.course.run_queue.Given as goal

abbrev pub invariant-loop-number : goal.invariant-loop-number
invariant-loop-number l = Runs l.task l.work l.trail l.ring l.ring.items × (l.work.decisions ≡ l.initial.work.decisions) × (l.work.made ≡ l.initial.work.made)

abbrev pub decreases-loop-number : goal.decreases-loop-number
decreases-loop-number l = length l.ring.items
