-- How many fields the first members of a list declare, and where the fields of types stand in rows.
use Rattle.std.specs.Prelude.{ℕ, ◌+◌, List, [], ◌∷◌, length, slice_get, slice_index_or}
use Rattle.std.specs.Option.{option_map_or}
use Rattle.type_members.specs.type_heads.Table.{TypeHead}
use Rattle.type_members.specs.type_heads.Types.{Member}
use Rattle.type_members.specs.declared.places.Part.{Part}
use Rattle.type_members.specs.declared.places.Span.{Span}
use Rattle.type_tables.specs.Entries.{member_entries}
use Rattle.type_tables.specs.declared.field_rows.FieldRow.{FieldRow}

-- how many fields there are after each member, with n before the first
abbrev pub ends_from : List TypeHead → ℕ → List Member → List ℕ
ends_from heads n [] = []
ends_from heads n (m ∷ ms) = (n + length (member_entries heads m)) ∷ ends_from heads (n + length (member_entries heads m)) ms

-- how many fields the first members declare: none of them, the first, the first two, and so on
abbrev pub all_ends : List TypeHead → List Member → List ℕ
all_ends heads ms = 0 ∷ ends_from heads 0 ms

-- how many fields the first members of a row declare
abbrev pub count_in : List FieldRow → ℕ → ℕ → ℕ
count_in rows row members = option_map_or (λ (r : FieldRow). slice_index_or r.ends.items members (length r.table)) (slice_get rows row) 0

-- where fields stand, given where the members that declare them stand
abbrev pub span_of_fields : List FieldRow → Span → Span
span_of_fields rows s = record { row = s.row; len = count_in rows s.row s.len }

-- where fields stand, given the part in which the members that declare them stand
abbrev pub part_of_fields : List FieldRow → Part → Part
part_of_fields rows p = record { row = p.row; from = count_in rows p.row p.from; to = count_in rows p.row p.to; inside = p.inside }
