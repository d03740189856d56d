use Rattle.std.proofs.Common.{◌+◌, ◌*◌, ◌-◌, length}
use Rattle.seeded_search.specs.Runs.{Runs}
use Rattle.seeded_search.proofs.course.go.Given as goal

abbrev pub invariant-loop-end : goal.invariant-loop-end
invariant-loop-end l = Runs l.task l.work l.trail l.ring l.ring.items

abbrev pub decreases-loop-end : goal.decreases-loop-end
decreases-loop-end l = 2 * (l.task.cuts - l.work.made) + length l.work.decisions.items
