use Rattle.std.proofs.Common.{arith, to_z}
use Rattle.std.specs.Int.{w128}
use Rattle.std.proofs.lemmas.Int.{ints}
use Rattle.std.proofs.lemmas.List.{drop_more, drop_all}
use Rattle.linear_sums.proofs.PickSteps.{add_start, add_next, add_asks, add_room, add_end, wrapped_add}
use Rattle.linear_sums.proofs.summing.constant_of_picks.Goals as goal

pub loop-pick-init : goal.loop-pick-init
loop-pick-init c = add_start c.args.flat.now c.args.picks.now c.requires.linear c.requires.there c.requires.weight

pub constant_of_pick-total-requires-clause-there : goal.constant_of_pick-total-requires-clause-there
constant_of_pick-total-requires-clause-there c = (add_asks c.args.flat.now c.args.picks.now (to_z w128 c.loop-pick.total-bits) c.loop-pick.pick-index _
    (drop_more c.args.picks.now c.loop-pick.pick-index _ c.loop-pick-test.true) c.loop-pick.invariant).0

pub constant_of_pick-total-requires-clause-linear : goal.constant_of_pick-total-requires-clause-linear
constant_of_pick-total-requires-clause-linear c = (add_asks c.args.flat.now c.args.picks.now (to_z w128 c.loop-pick.total-bits) c.loop-pick.pick-index _
    (drop_more c.args.picks.now c.loop-pick.pick-index _ c.loop-pick-test.true) c.loop-pick.invariant).1

pub constant_of_pick-total-requires-clause-weight : goal.constant_of_pick-total-requires-clause-weight
constant_of_pick-total-requires-clause-weight c = (add_asks c.args.flat.now c.args.picks.now (to_z w128 c.loop-pick.total-bits) c.loop-pick.pick-index _
    (drop_more c.args.picks.now c.loop-pick.pick-index _ c.loop-pick-test.true) c.loop-pick.invariant).2

pub overflow_add-total : goal.overflow_add-total
overflow_add-total c =
    let h = add_room c.args.flat.now c.args.picks.now (to_z w128 c.loop-pick.total-bits) c.constant_of_pick-total.result c.loop-pick.pick-index _
    (drop_more c.args.picks.now c.loop-pick.pick-index _ c.loop-pick-test.true) c.loop-pick.invariant c.constant_of_pick-total.ensures.small in
    omega (arith, ints, h)

pub loop-pick-preserved : goal.loop-pick-preserved
loop-pick-preserved c =
    let h = add_room c.args.flat.now c.args.picks.now (to_z w128 c.loop-pick.total-bits) c.constant_of_pick-total.result c.loop-pick.pick-index _
    (drop_more c.args.picks.now c.loop-pick.pick-index _ c.loop-pick-test.true) c.loop-pick.invariant c.constant_of_pick-total.ensures.small in
    add_next c.args.flat.now c.args.picks.now (to_z w128 c.loop-pick.total-bits) c.constant_of_pick-total.result _ c.loop-pick.pick-index _
    (drop_more c.args.picks.now c.loop-pick.pick-index _ c.loop-pick-test.true) c.loop-pick.invariant c.constant_of_pick-total.ensures.value c.constant_of_pick-total.ensures.small (wrapped_add (to_z w128 c.loop-pick.total-bits) c.constant_of_pick-total.result h)

pub returns-clause-value : goal.returns-clause-value
returns-clause-value c = add_end c.args.flat.now c.args.picks.now (to_z w128 c.loop-pick.total-bits) _ (drop_all c.loop-pick.pick-index c.args.picks.now c.loop-pick-test.false) c.loop-pick.invariant

pub returns-clause-small : goal.returns-clause-small
returns-clause-small c = omega (arith, c.loop-pick.invariant.room)
