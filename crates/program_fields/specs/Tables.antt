-- The fields of each type of a program.
use Rattle.std.specs.Prelude.{ℕ, List, [], map, slice_index_or}
use Rattle.dsl_tree.specs.declared.parts.Ident.{Ident}
use Rattle.type_heads.specs.Members.{fields_among}
use Rattle.type_heads.specs.Types.{Field, Member}
use Rattle.type_members.specs.Listed.{lists_of, seen_row}
use Rattle.type_members.specs.Shared.{fronts_in, members_at as members_there, under_inside}
use Rattle.type_members.specs.declared.places.Part.{Part}
use Rattle.type_members.specs.declared.places.Span.{Span}
use Rattle.program_fields.specs.Parts.{spots_between}
use Rattle.program_fields.specs.declared.tables.ProgramFields.{ProgramFields}
use Rattle.program_fields.specs.declared.views.FieldsOf.{FieldsOf}

-- the members of each row
abbrev pub rows_in : ProgramFields → List (List Member)
rows_in p = map seen_row p.lists.now.rows.items

-- the parts in front of each row
abbrev pub all_fronts : ProgramFields → List (List Part)
all_fronts p = fronts_in p.lists.now.rows.items

-- the members of each type
abbrev pub lists_in : ProgramFields → List (List Member)
lists_in p = lists_of p.lists.now

-- the members that stand at a place
abbrev pub members_at : ProgramFields → Span → List Member
members_at p s = members_there (all_fronts p) (rows_in p) s

-- the fields of the members that stand at a place
abbrev pub fields_in : FieldsOf → List Field
fields_in f = fields_among (members_at f.fields.now f.span)

-- the first members of a row, as a part of it
abbrev pub own_part : Span → Part
own_part s = record { row = s.row; from = 0; to = s.len; inside = 0 }

-- the members of the row of a part
abbrev pub row_of : ProgramFields → Part → List Member
row_of p part = slice_index_or (rows_in p) part.row []

-- the members of the row of a part, as they are seen there
abbrev pub row_inside : ProgramFields → Part → List Member
row_inside p part = map (under_inside part.inside) (row_of p part)

-- the names of the fields of a part
abbrev pub part_spots : ProgramFields → Part → List (Ident × ℕ)
part_spots p part = spots_between part.from part.to (row_of p part)
