use Rattle.std.proofs.Common.{◌≡◌, ◌++◌, drop, map}
use Rattle.type_members.specs.Listed.{seen_listed}
use Rattle.program_fields.specs.Parts.{dos_from}
use Rattle.program_fields.proofs.gathered.do_places.Given as goal

abbrev pub invariant-loop-listed : goal.invariant-loop-listed
invariant-loop-listed l = record {
  count : l.place ≡ l.listed-index;
  dos : l.dos.items ++ dos_from l.place (map seen_listed (drop l.listed-index l.members)) ≡ dos_from 0 (map seen_listed l.members);
}
