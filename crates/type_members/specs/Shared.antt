-- Rows that types share: a row comes after parts of other rows, so that what stands in those isn't written again.
use Rattle.std.specs.Prelude.{◌≡◌, ℕ, ◌+◌, ◌<◌, ◌&&◌, Bool, true, false, List, [], ◌∷◌, ◌++◌, Option, Some, drop, filter, flat_map, length, map, nat_le, nat_lt, slice_get, slice_index_or, take}
use Rattle.std.specs.Option.{option_map_or}
use Rattle.type_heads.specs.Types.{Member}
use Rattle.type_members.specs.declared.places.Part.{Part}
use Rattle.type_members.specs.declared.places.Span.{Span}
use Rattle.type_members.specs.declared.rows.Cut.{Cut}
use Rattle.type_members.specs.declared.rows.MemberRow.{MemberRow}
use Rattle.type_members.specs.declared.rows.Start.{Start}

-- what stands in a row from one place to another
abbrev pub part_at : {X : Type 0} → List (List X) → Part → List X
part_at rows p = drop p.from (take p.to (slice_index_or rows p.row []))

-- what stands in parts, one after the other
abbrev pub parts_at : {X : Type 0} → List (List X) → List Part → List X
parts_at rows parts = flat_map (part_at rows) parts

-- what stands at a place: the parts in front of a row, and so many of the first of the row itself
abbrev pub list_at : {X : Type 0} → List (List Part) → List (List X) → Span → List X
list_at fronts rows s = parts_at rows (slice_index_or fronts s.row []) ++ take s.len (slice_index_or rows s.row [])

-- a member without so many of its outermost conditions, which are met already
abbrev pub under_inside : ℕ → Member → Member
under_inside count m = record m { under = drop count m.under }

-- the members in a part, as they are seen there
abbrev pub members_in_part : List (List Member) → Part → List Member
members_in_part rows p = map (under_inside p.inside) (part_at rows p)

-- the members in parts, one after the other
abbrev pub members_in_parts : List (List Member) → List Part → List Member
members_in_parts rows parts = flat_map (members_in_part rows) parts

-- the members at a place
abbrev pub members_at : List (List Part) → List (List Member) → Span → List Member
members_at fronts rows s = members_in_parts rows (slice_index_or fronts s.row []) ++ take s.len (slice_index_or rows s.row [])

-- the parts at a place
abbrev pub place_parts : List (List Part) → Span → List Part
place_parts fronts s = slice_index_or fronts s.row [] ++ record { row = s.row; from = 0; to = s.len; inside = 0 } ∷ []

-- a part from one place to another, with one condition more that is met already
abbrev pub inner_part : Part → Cut → Part
inner_part p cut = record { row = p.row; from = cut.from; to = cut.to; inside = p.inside + 1 }

-- what a cut leaves of a part
abbrev pub around : Part → Cut → List Part
around p cut = record p { to = cut.from } ∷ record p { from = cut.to } ∷ []

-- what is cut out of one of some parts comes after all, with one condition more that is met already
abbrev pub moved : List Part → Cut → List Part
moved parts cut =
    option_map_or (λ (p : Part). (take cut.part parts ++ around p cut ++ drop (cut.part + 1) parts) ++ inner_part p cut ∷ []) (slice_get parts cut.part) []

-- a part has places
abbrev pub has_places : Part → Bool
has_places p = nat_lt p.from p.to

-- what a row comes after, if it starts there
abbrev pub parts_from : List (List Part) → Option Start → List Part
parts_from fronts start =
    filter has_places (option_map_or (λ (s : Start). option_map_or (moved (place_parts fronts s.at)) s.cut (place_parts fronts s.at)) start [])

-- the parts in front of each row
abbrev pub fronts_in : List MemberRow → List (List Part)
fronts_in rows = map (λ (r : MemberRow). r.front.items) rows

-- a cut lies in a part
abbrev pub lies_in : Cut → Part → Bool
lies_in cut p = nat_le p.from cut.from && (nat_le cut.from cut.to && nat_le cut.to p.to)

-- if there is a cut, it lies in the part that it is of
abbrev pub is_cut : List Part → Option Cut → Bool
is_cut parts cut = option_map_or (λ (c : Cut). option_map_or (lies_in c) (slice_get parts c.part) false) cut true

-- the row of that number starts at an earlier row, and comes after what is told there
pub record IsStarted (rows : List MemberRow) (number : ℕ) (r : MemberRow) : Type 0 where
  pub front : r.front.items ≡ parts_from (fronts_in rows) r.start
  pub earlier : (s : Start) → r.start ≡ Some s → s.at.row < number
  pub cuts : (s : Start) → r.start ≡ Some s → is_cut (place_parts (fronts_in rows) s.at) s.cut ≡ true

-- so does each row
abbrev pub AreStarted : List MemberRow → Type 0
AreStarted rows = (number : ℕ) (r : MemberRow) → number < length rows → IsStarted rows number (slice_index_or rows number r)
