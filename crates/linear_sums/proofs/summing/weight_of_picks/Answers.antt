use Rattle.std.proofs.Common.{refl, sym, ◌∙◌}
use Rattle.std.proofs.lemmas.List.{drop_more, drop_all}
use Rattle.linear_sums.proofs.PickSteps.{weigh_next, weigh_stop, weigh_asks, weigh_end}
use Rattle.linear_sums.proofs.summing.weight_of_picks.Goals as goal

pub loop-pick-init : goal.loop-pick-init
loop-pick-init c = record { there = c.requires.there; same = refl }

pub weight_with_pick-requires-clause-there : goal.weight_with_pick-requires-clause-there
weight_with_pick-requires-clause-there c = weigh_asks c.args.flat.now c.args.picks.now c.loop-pick.total c.loop-pick.pick-index _
    (drop_more c.args.picks.now c.loop-pick.pick-index _ c.loop-pick-test.true) c.loop-pick.invariant

pub returns-in-None : goal.returns-in-None
returns-in-None c = weigh_stop c.args.flat.now c.args.picks.now c.loop-pick.total c.loop-pick.pick-index _
    (drop_more c.args.picks.now c.loop-pick.pick-index _ c.loop-pick-test.true) c.loop-pick.invariant (sym c.weight_with_pick.ensures ∙ c.in-None.is)

pub loop-pick-preserved : goal.loop-pick-preserved
loop-pick-preserved c = weigh_next c.args.flat.now c.args.picks.now c.loop-pick.total c.in-Some.more c.loop-pick.pick-index _
    (drop_more c.args.picks.now c.loop-pick.pick-index _ c.loop-pick-test.true) c.loop-pick.invariant (sym c.weight_with_pick.ensures ∙ c.in-Some.is)

pub returns : goal.returns
returns c = weigh_end c.args.flat.now c.args.picks.now c.loop-pick.total _ (drop_all c.loop-pick.pick-index c.args.picks.now c.loop-pick-test.false) c.loop-pick.invariant
