use Rattle.std.proofs.Common.{◌≡◌, ◌++◌, drop, map}
use Rattle.type_members.specs.Shared.{fronts_in}
use Rattle.type_tables.specs.FieldEnds.{part_of_fields}
use Rattle.type_tables.proofs.field_lists.field_fronts.Given as goal

abbrev pub invariant-loop-row : goal.invariant-loop-row
invariant-loop-row l = l.all.items ++ map (map (part_of_fields l.rows)) (fronts_in (drop l.row-index l.of_members)) ≡ map (map (part_of_fields l.rows)) (fronts_in l.of_members)
