-- Where members are written, in rows that are read as rows of members are.
use Rattle.std.specs.Prelude.{ℕ, List, [], ◌++◌, None, cond, flat_map, length, map, nat_lt, slice_index_or, take}
use Rattle.string_texts.specs.type_heads.Shown.{shown_member}
use Rattle.string_texts.specs.type_heads.Told.{MemberAt, last_number}
use Rattle.string_texts.specs.type_heads.Types.{Member}
use Rattle.type_tables.specs.type_members.Shared.{part_at}
use Rattle.type_tables.specs.type_members.declared.places.Part.{Part}
use Rattle.type_tables.specs.type_members.declared.places.Span.{Span}
use Rattle.type_model.specs.declared.refs.RowRef.{RowRef}

-- what a row keeps of a member
abbrev pub ref_of : Member → RowRef
ref_of m = record {
  at = record {
    decl = record { file = m.written.file; index = m.written.declaration };
    index = m.written.index;
    under = last_number m.under;
  };
  depth = length m.under;
}

-- what is told of a member without so many of its outermost conditions, which are met already
abbrev pub told_inside : ℕ → RowRef → MemberAt
told_inside count r = record (shown_member r.at) { under = cond (nat_lt count r.depth) r.at.under None }

-- what is told of the members in a part
abbrev pub refs_in_part : List (List RowRef) → Part → List MemberAt
refs_in_part rows p = map (told_inside p.inside) (part_at rows p)

-- what is told of the members in parts, one after the other
abbrev pub refs_in_parts : List (List RowRef) → List Part → List MemberAt
refs_in_parts rows parts = flat_map (refs_in_part rows) parts

-- what is told of the members at a place
abbrev pub told_at : List (List Part) → List (List RowRef) → Span → List MemberAt
told_at fronts rows s = refs_in_parts rows (slice_index_or fronts s.row []) ++ map (told_inside 0) (take s.len (slice_index_or rows s.row []))
