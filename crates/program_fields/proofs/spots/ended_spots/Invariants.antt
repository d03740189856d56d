use Rattle.std.proofs.Common.{◌≡◌, ◌++◌, length, drop, map}
use Rattle.type_members.specs.Listed.{seen_listed}
use Rattle.program_fields.specs.Parts.{all_ends, ends_from, spots_from}
use Rattle.program_fields.specs.SeenSpots.{seen_spot}
use Rattle.program_fields.proofs.spots.ended_spots.Given as goal

abbrev pub invariant-loop-listed : goal.invariant-loop-listed
invariant-loop-listed l = record {
  count : l.number ≡ l.listed-index;
  spots : map seen_spot l.fields.spots.items ++ spots_from l.number (map seen_listed (drop l.listed-index l.members)) ≡ spots_from 0 (map seen_listed l.members);
  ends : l.fields.ends.items ++ ends_from (length l.fields.spots.items) (map seen_listed (drop l.listed-index l.members)) ≡ all_ends (map seen_listed l.members);
}
