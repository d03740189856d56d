use Rattle.std.proofs.Common.{◌≡◌, length, map}
use Rattle.type_members.specs.Listed.{seen_row}
use Rattle.member_faults.specs.NamePlaces.{AreRowPlaces}
use Rattle.member_faults.proofs.name_places.row_places.Given as goal

abbrev pub invariant-loop-row : goal.invariant-loop-row
invariant-loop-row l = record {
  count : length l.all.items ≡ l.row-index;
  places : AreRowPlaces l.all.items (map seen_row l.rows);
}
