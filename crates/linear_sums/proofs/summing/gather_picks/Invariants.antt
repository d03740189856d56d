use Rattle.std.proofs.Common.{drop}
use Rattle.linear_sums.proofs.PickSteps.{Gathers}
use Rattle.linear_sums.proofs.summing.gather_picks.Given as goal

abbrev pub invariant-loop-pick : goal.invariant-loop-pick
invariant-loop-pick l = Gathers l.flat l.initial.sums l.sums l.picks (drop l.pick-index l.picks)
