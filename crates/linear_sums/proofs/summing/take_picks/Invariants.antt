use Rattle.std.proofs.Common.{drop}
use Rattle.linear_sums.proofs.PickSteps.{Takes}
use Rattle.linear_sums.proofs.summing.take_picks.Given as goal

abbrev pub invariant-loop-pick : goal.invariant-loop-pick
invariant-loop-pick g l = Takes l.flat (g.E.Ends.ends l.ends) l.initial.sums l.sums l.total l.picks (drop l.pick-index l.picks)
