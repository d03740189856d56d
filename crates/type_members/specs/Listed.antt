-- What the program's own lists of subtypes and members are seen as.
use Rattle.std.specs.Prelude.{◌≡◌, ℕ, ◌&&◌, Bool, false, List, [], map, nat_eq, slice_index_or}
use Rattle.std.specs.Option.{option_map_or}
use Rattle.type_heads.specs.Table.{TypeHead, base}
use Rattle.type_heads.specs.Types.{TypeBody, Member}
use Rattle.type_heads.specs.Members.{is_conditional, subtypes}
use Rattle.type_heads.specs.Bodied.{seen_written}
use Rattle.type_members.specs.declared.listed.ListedMember.{ListedMember}
use Rattle.type_members.specs.Shared.{fronts_in, members_at}
use Rattle.type_members.specs.declared.rows.MemberRow.{MemberRow}
use Rattle.type_members.specs.declared.member_lists.MemberLists.{MemberLists}

-- a member of a type
abbrev pub seen_listed : ListedMember → Member
seen_listed l = record { written = seen_written l.written; holder = l.holder; under = l.under }

-- c is a conditional subtype of type t
abbrev pub is_subtype : List TypeHead → List TypeBody → ℕ → ℕ → Bool
is_subtype heads bodies t c = is_conditional bodies c && option_map_or (nat_eq t) (base heads c) false

-- the lists are the conditional subtypes of each type, and a type without a list has none
abbrev pub AreSubtypes : List TypeHead → List TypeBody → List (List ℕ) → Type 0
AreSubtypes heads bodies lists = (t : ℕ) → slice_index_or lists t [] ≡ subtypes heads bodies t

-- the members of a row
abbrev pub seen_row : MemberRow → List Member
seen_row r = map seen_listed r.members.items

-- the members of each type
abbrev pub lists_of : MemberLists → List (List Member)
lists_of m = map (members_at (fronts_in m.rows.items) (map seen_row m.rows.items)) m.spans.items
