use Rattle.std.proofs.Common.{◌≡◌, take}
use Rattle.std.specs.Prelude.{filter_map}
use Rattle.composition.proofs.sorts.sorted.Given as goal

abbrev pub invariant-loop-spot : goal.invariant-loop-spot
invariant-loop-spot g l = l.sorted ≡ filter_map g.T.FromSpot.from_spot_is (take l.spot-index l.spots)
