use Rattle.std.proofs.Common.{arith, to_z}
use Rattle.std.specs.Int.{w128}
use Rattle.std.proofs.lemmas.Int.{ints}
use Rattle.std.proofs.lemmas.List.{drop_more, drop_all}
use Rattle.linear_sums.proofs.PickSteps.{take_start, take_next, take_asks, take_room, take_end, wrapped_add}
use Rattle.linear_sums.proofs.summing.take_picks.Goals as goal

pub loop-pick-init : goal.loop-pick-init
loop-pick-init g c = take_start c.args.flat.now (g.E.Ends.ends c.args.ends.now) c.args.sums.now c.args.picks.now c.requires.there c.requires.long c.requires.small

pub take_pick-total-requires-clause-there : goal.take_pick-total-requires-clause-there
take_pick-total-requires-clause-there g c = take_asks c.args.flat.now (g.E.Ends.ends c.args.ends.now) c.args.sums.now c.args.picks.now c.loop-pick.sums (to_z w128 c.loop-pick.total-bits) c.loop-pick.pick-index _
    (drop_more c.args.picks.now c.loop-pick.pick-index _ c.loop-pick-test.true) c.loop-pick.invariant

pub take_pick-total-requires-clause-small : goal.take_pick-total-requires-clause-small
take_pick-total-requires-clause-small g c = omega (arith, c.loop-pick.invariant.small)

pub overflow_add-total : goal.overflow_add-total
overflow_add-total g c =
    let h = take_room c.args.flat.now (g.E.Ends.ends c.args.ends.now) c.args.sums.now c.args.picks.now c.loop-pick.sums c.take_pick-total.new.sums (to_z w128 c.loop-pick.total-bits) c.take_pick-total.result _ _ c.loop-pick.invariant c.take_pick-total.ensures in
    omega (arith, ints, h)

pub loop-pick-preserved : goal.loop-pick-preserved
loop-pick-preserved g c =
    let h = take_room c.args.flat.now (g.E.Ends.ends c.args.ends.now) c.args.sums.now c.args.picks.now c.loop-pick.sums c.take_pick-total.new.sums (to_z w128 c.loop-pick.total-bits) c.take_pick-total.result _ _ c.loop-pick.invariant c.take_pick-total.ensures in
    take_next c.args.flat.now (g.E.Ends.ends c.args.ends.now) c.args.sums.now c.args.picks.now c.loop-pick.sums c.take_pick-total.new.sums (to_z w128 c.loop-pick.total-bits) c.take_pick-total.result _ c.loop-pick.pick-index _
    (drop_more c.args.picks.now c.loop-pick.pick-index _ c.loop-pick-test.true) c.loop-pick.invariant c.take_pick-total.ensures (wrapped_add (to_z w128 c.loop-pick.total-bits) c.take_pick-total.result h)

pub returns : goal.returns
returns g c = take_end c.args.flat.now (g.E.Ends.ends c.args.ends.now) c.args.sums.now c.args.picks.now c.loop-pick.sums (to_z w128 c.loop-pick.total-bits) _ (drop_all c.loop-pick.pick-index c.args.picks.now c.loop-pick-test.false) c.loop-pick.invariant
