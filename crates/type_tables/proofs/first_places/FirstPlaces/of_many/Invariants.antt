use Rattle.std.proofs.Common.{◌≡◌, true, take}
use Rattle.type_tables.specs.Places.{AreDistinct, HasPlaces}
use Rattle.type_tables.proofs.first_places.FirstPlaces.of_many.Given as goal

abbrev pub invariant-loop-thing : goal.invariant-loop-thing
invariant-loop-thing g l = record {
  count : l.place ≡ l.thing-index;
  places : HasPlaces l.index g.T.HasName.name_of (take l.thing-index l.things);
  distinct : l.index.is_distinct ≡ true → AreDistinct g.T.HasName.name_of (take l.thing-index l.things);
}
