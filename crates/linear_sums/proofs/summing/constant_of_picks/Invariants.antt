use Rattle.std.proofs.Common.{drop}
use Rattle.linear_sums.proofs.PickSteps.{Adds}
use Rattle.linear_sums.proofs.summing.constant_of_picks.Given as goal

abbrev pub invariant-loop-pick : goal.invariant-loop-pick
invariant-loop-pick l = Adds l.flat l.total l.picks (drop l.pick-index l.picks)
