-- What a row of fields holds.
use Rattle.std.specs.Prelude.{ℕ, List, length, map, slice_index_or}
use Rattle.dsl_tree.specs.declared.parts.Ident.{Ident}
use Rattle.program_fields.specs.SeenSpots.{seen_spot}
use Rattle.program_fields.specs.declared.field_row.FieldRow.{FieldRow}

-- the names of fields, how many fields there are after each member, and the place of each `do`
abbrev pub row_facts : FieldRow → List (Ident × ℕ) × List ℕ × List ℕ
row_facts r = (map seen_spot r.spots.items, r.ends.items, r.dos.items)

-- how many fields the first members declare
abbrev pub count_among : FieldRow → ℕ → ℕ
count_among r members = slice_index_or r.ends.items members (length r.spots.items)
