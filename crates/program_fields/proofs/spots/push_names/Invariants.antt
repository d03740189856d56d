use Rattle.std.proofs.Common.{◌≡◌, ◌++◌, drop, map}
use Rattle.program_fields.specs.Parts.{with_number}
use Rattle.program_fields.specs.SeenSpots.{seen_spot}
use Rattle.program_fields.proofs.spots.push_names.Given as goal

abbrev pub invariant-loop-name : goal.invariant-loop-name
invariant-loop-name l =
    map seen_spot l.into.items ++ map (with_number l.member) (drop l.name-index l.names) ≡ map seen_spot l.fn.into.items ++ map (with_number l.member) l.names
