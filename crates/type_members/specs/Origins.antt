-- Where rows start, and what a row has that begins with a type.
use Rattle.std.specs.Prelude.{◌≡◌, ℕ, ◌<◌, Bool, true, false, List, ◌++◌, Option, Some, None, length, map, slice_index_or, ⊤}
use Rattle.type_heads.specs.Table.{TypeHead, base}
use Rattle.type_heads.specs.Types.{TypeBody, Member}
use Rattle.type_heads.specs.Members.{members_of}
use Rattle.type_members.specs.Ancestry.{HasEnd}
use Rattle.type_members.specs.Cutting.{IsCutFor}
use Rattle.type_members.specs.Listed.{seen_row}
use Rattle.type_members.specs.RowEnds.{AreEnds, IsAt, own_part}
use Rattle.type_members.specs.Shared.{IsStarted, fronts_in, is_cut, members_in_parts, parts_from, place_parts}
use Rattle.type_members.specs.declared.fronts.Origin.{Origin}
use Rattle.type_members.specs.declared.places.Span.{Span}
use Rattle.type_members.specs.declared.places.Standing.{Standing}
use Rattle.type_members.specs.declared.rows.Cut.{Cut}
use Rattle.type_members.specs.declared.rows.MemberRow.{MemberRow}
use Rattle.type_members.specs.declared.rows.Start.{Start}

-- the members of a type of the table stand there, and there are so many types from it on, which are fewer than all
pub record IsKnownAt (heads : List TypeHead) (bodies : List TypeBody) (rows : List MemberRow) (t : ℕ) (s : Standing) : Type 0 where
  pub there : t < length heads
  pub at : IsAt heads bodies rows t s.span
  pub below : s.depth < length heads
  pub end : HasEnd heads (Some t) s.depth

-- what stands before a row that starts there
abbrev pub before : List MemberRow → Start → List Member
before rows s = members_in_parts (map seen_row rows) (parts_from (fronts_in rows) (Some s))

-- there is such a start
pub record IsStart (rows : List MemberRow) (s : Start) : Type 0 where
  pub there : s.at.row < length rows
  pub cut : is_cut (place_parts (fronts_in rows) s.at) s.cut ≡ true

-- no member comes down through a conditional subtype, or a cut takes out those at a place that do
abbrev pub IsTold : List MemberRow → List Bool → Span → ℕ → Option Cut → Type 0
IsTold rows bare at c None = slice_index_or bare c false ≡ true
IsTold rows bare at c (Some cut) = IsCutFor (map seen_row rows) (place_parts (fronts_in rows) at) c cut

-- the start of a row that begins with a conditional subtype, whose base stands at that place
pub record IsConditionalStart (rows : List MemberRow) (bare : List Bool) (at : Span) (c : ℕ) (s : Start) : Type 0 where
  pub same : s.at ≡ at
  pub told : IsTold rows bare at c s.cut

-- The start of a row that begins with a type, if it is known. What comes before the row is what the type has of its base, or all that it has.
abbrev pub IsOrigin : List TypeHead → List TypeBody → List MemberRow → ℕ → Origin → Type 0
IsOrigin heads bodies rows t Origin.Nowhere = base heads t ≡ None
IsOrigin heads bodies rows t (Origin.Beside s) = IsStart rows s × (before rows s ++ own_part heads bodies t ≡ members_of heads bodies t)
IsOrigin heads bodies rows t (Origin.Within s) = IsStart rows s × (before rows s ≡ members_of heads bodies t)
IsOrigin heads bodies rows t Origin.Unknown = ⊤

-- the members of a type are what stands in front of a row and the whole row
pub record IsWhole (heads : List TypeHead) (bodies : List TypeBody) (front : List Member) (row : MemberRow) (t : ℕ) : Type 0 where
  pub members : front ++ seen_row row ≡ members_of heads bodies t
  pub ends : AreEnds heads bodies front (seen_row row) row.ends.items

-- a row that begins with a type, and stands after these rows
pub record IsFirstRow (heads : List TypeHead) (bodies : List TypeBody) (rows : List MemberRow) (t : ℕ) (row : MemberRow) : Type 0 where
  pub whole : IsWhole heads bodies (members_in_parts (map seen_row rows) row.front.items) row t
  pub started : IsStarted rows (length rows) row
