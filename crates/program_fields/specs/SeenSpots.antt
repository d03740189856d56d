-- What the program's own names of fields are seen as.
use Rattle.std.specs.Prelude.{ℕ}
use Rattle.dsl_tree.specs.declared.parts.Ident.{Ident}
use Rattle.program_fields.specs.declared.spots.FieldSpot.{FieldSpot}

-- a name, with the number of the member that declares it
abbrev pub seen_spot : FieldSpot → Ident × ℕ
seen_spot s = (s.name.now, s.member)
