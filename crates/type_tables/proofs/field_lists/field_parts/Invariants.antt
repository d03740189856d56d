use Rattle.std.proofs.Common.{◌≡◌, ◌++◌, drop, map}
use Rattle.type_tables.specs.FieldEnds.{part_of_fields}
use Rattle.type_tables.proofs.field_lists.field_parts.Given as goal

abbrev pub invariant-loop-part : goal.invariant-loop-part
invariant-loop-part l = l.all.items ++ map (part_of_fields l.rows) (drop l.part-index l.parts) ≡ map (part_of_fields l.rows) l.parts
