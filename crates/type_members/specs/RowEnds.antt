-- Rows of members, and the types whose members are the first of a row, after what stands in front of it.
use Rattle.std.specs.Prelude.{◌≡◌, ℕ, ◌<◌, ◌≤◌, ◌&&◌, Bool, false, not, List, ◌∷◌, ◌++◌, Some, length, map, nat_eq, take}
use Rattle.std.specs.Option.{option_map_or}
use Rattle.std.specs.List.{All}
use Rattle.type_heads.specs.Table.{TypeHead, base, bases}
use Rattle.type_heads.specs.Types.{TypeBody, Member}
use Rattle.type_heads.specs.Members.{down, has, is_conditional, member_of, members_of}
use Rattle.type_members.specs.Ancestry.{HasEnd}
use Rattle.type_members.specs.Listed.{seen_row}
use Rattle.type_members.specs.Shared.{AreStarted, fronts_in, members_at, members_in_parts}
use Rattle.type_members.specs.declared.places.Span.{Span}
use Rattle.type_members.specs.declared.places.Standing.{Standing}
use Rattle.type_members.specs.declared.rows.MemberRow.{MemberRow}
use Rattle.type_members.specs.declared.rows.RowEnd.{RowEnd}

-- the members that a type has beside those of its base
abbrev pub own_part : List TypeHead → List TypeBody → ℕ → List Member
own_part heads bodies t = map (member_of (t ∷ bases heads t)) (down heads bodies t)

-- a member is under type t
abbrev pub is_under : ℕ → Member → Bool
is_under t m = has t m.under

-- u inherits from t without a condition
abbrev pub is_heir : List TypeHead → List TypeBody → ℕ → ℕ → Bool
is_heir heads bodies t u = option_map_or (λ b. nat_eq b t && not (is_conditional bodies u)) (base heads u) false

-- The members of a type are what stands in front of a row, and so many of the first of the row. There are `depth` types from it on, each the
-- base of the one before, if those are fewer than all types.
pub record IsEnd (heads : List TypeHead) (bodies : List TypeBody) (front row : List Member) (e : RowEnd) : Type 0 where
  pub members : front ++ take e.len row ≡ members_of heads bodies e.of
  pub within : e.len ≤ length row
  pub ended : e.depth < length heads → HasEnd heads (Some e.of) e.depth

-- it is so for each of these types
abbrev pub AreEnds : List TypeHead → List TypeBody → List Member → List Member → List RowEnd → Type 0
AreEnds heads bodies front row ends = All (IsEnd heads bodies front row) ends

-- it is so for each type of a row
abbrev pub IsSharedRow : List TypeHead → List TypeBody → List MemberRow → MemberRow → Type 0
IsSharedRow heads bodies rows r = AreEnds heads bodies (members_in_parts (map seen_row rows) r.front.items) (seen_row r) r.ends.items

-- it is so for each row, and each row starts at an earlier one or at none
pub record AreRows (heads : List TypeHead) (bodies : List TypeBody) (rows : List MemberRow) : Type 0 where
  pub shared : All (IsSharedRow heads bodies rows) rows
  pub started : AreStarted rows

-- the members of a type stand at that place of the rows
pub record IsAt (heads : List TypeHead) (bodies : List TypeBody) (rows : List MemberRow) (t : ℕ) (s : Span) : Type 0 where
  pub there : s.row < length rows
  pub members : members_at (fronts_in rows) (map seen_row rows) s ≡ members_of heads bodies t

-- the members of a type stand there, and there are so many types from it on
pub record StandsAt (heads : List TypeHead) (bodies : List TypeBody) (rows : List MemberRow) (t : ℕ) (s : Standing) : Type 0 where
  pub at : IsAt heads bodies rows t s.span
  pub ended : s.depth < length heads → HasEnd heads (Some t) s.depth
