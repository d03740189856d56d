use Rattle.std.proofs.lemmas.List.{drop_more, drop_all}
use Rattle.linear_sums.proofs.PickSteps.{gather_start, gather_next, gather_asks, gather_end}
use Rattle.linear_sums.proofs.summing.gather_picks.Goals as goal

pub loop-pick-init : goal.loop-pick-init
loop-pick-init c = gather_start c.args.flat.now c.args.sums.now c.args.picks.now c.requires.slots c.requires.room c.requires.linear c.requires.there

pub gather_pick-requires-clause-there : goal.gather_pick-requires-clause-there
gather_pick-requires-clause-there c = (gather_asks c.args.flat.now c.args.sums.now c.args.picks.now c.loop-pick.sums c.loop-pick.pick-index _
    (drop_more c.args.picks.now c.loop-pick.pick-index _ c.loop-pick-test.true) c.loop-pick.invariant).0

pub gather_pick-requires-clause-linear : goal.gather_pick-requires-clause-linear
gather_pick-requires-clause-linear c = (gather_asks c.args.flat.now c.args.sums.now c.args.picks.now c.loop-pick.sums c.loop-pick.pick-index _
    (drop_more c.args.picks.now c.loop-pick.pick-index _ c.loop-pick-test.true) c.loop-pick.invariant).1

pub gather_pick-requires-clause-room : goal.gather_pick-requires-clause-room
gather_pick-requires-clause-room c = (gather_asks c.args.flat.now c.args.sums.now c.args.picks.now c.loop-pick.sums c.loop-pick.pick-index _
    (drop_more c.args.picks.now c.loop-pick.pick-index _ c.loop-pick-test.true) c.loop-pick.invariant).2

pub loop-pick-preserved : goal.loop-pick-preserved
loop-pick-preserved c = gather_next c.args.flat.now c.args.sums.now c.args.picks.now c.loop-pick.sums c.gather_pick.new.sums c.loop-pick.pick-index _
    (drop_more c.args.picks.now c.loop-pick.pick-index _ c.loop-pick-test.true) c.loop-pick.invariant c.gather_pick.ensures

pub returns : goal.returns
returns c = gather_end c.args.flat.now c.args.sums.now c.args.picks.now c.loop-pick.sums _ (drop_all c.loop-pick.pick-index c.args.picks.now c.loop-pick-test.false) c.loop-pick.invariant
