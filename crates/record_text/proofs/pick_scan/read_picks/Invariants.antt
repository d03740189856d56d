use Rattle.std.proofs.Common.{length}
use Rattle.record_text.proofs.PickSteps.{AreRead}
use Rattle.record_text.proofs.pick_scan.read_picks.Given as goal

abbrev pub invariant-loop-rest : goal.invariant-loop-rest
invariant-loop-rest l = AreRead l.text l.picks l.rest

abbrev pub decreases-loop-rest : goal.decreases-loop-rest
decreases-loop-rest l = length l.rest
