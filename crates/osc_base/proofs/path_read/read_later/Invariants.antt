use Rattle.std.proofs.Common.{length}
use Rattle.osc_base.proofs.PathReading.{Reached}
use Rattle.osc_base.proofs.path_read.read_later.Given as goal

abbrev pub invariant-loop-left : goal.invariant-loop-left
invariant-loop-left l = Reached l.fn.first.step l.fn.first.left.now l.steps l.of_member l.left

abbrev pub decreases-loop-left : goal.decreases-loop-left
decreases-loop-left l = length l.left
