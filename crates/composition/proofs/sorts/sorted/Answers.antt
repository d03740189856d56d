use Rattle.composition.proofs.SpotSorts.{sort_more}
use Rattle.composition.proofs.sorts.sorted.Goals as goal

pub loop-spot-preserved : goal.loop-spot-preserved
loop-spot-preserved g c =
    sort_more g.T.FromSpot.from_spot_is c.args.spots.now c.loop-spot.spot-index c.spot-item.result c.loop-spot.sorted c.push_some.new.parts c.in_ok-from_spot.field-0
    c.loop-spot-test.true c.spot-item.is c.loop-spot.invariant c.in_ok-from_spot.ensures c.in_ok-push_some.ensures
