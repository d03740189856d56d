-- How many types there are from a type on, each the base of the one before, and a type farther along: as the program's own table has them.
use Rattle.std.specs.Prelude.{◌≡◌, ℕ, ◌+◌, ◌&&◌, ◌||◌, Bool, true, not, List, Option, Some, None, length, nat_eq, nat_lt, slice_index_or}
use Rattle.std.specs.Option.{option_map_or}
use Rattle.std.specs.List.{list_all}
use Rattle.type_heads.specs.Table.{TypeHead, all_types, base, line_within}
use Rattle.type_heads.specs.declared.ancestors.LineEntry.{LineEntry}
use Rattle.type_heads.specs.declared.ancestors.Ancestors.{Ancestors}

-- the entry of type t. A number that no type has stands for a type without a base.
abbrev pub entry : List LineEntry → ℕ → LineEntry
entry entries t = slice_index_or entries t (record { depth = 1; jump = t })

-- how many types there are from t on
abbrev pub depth : List LineEntry → ℕ → ℕ
depth entries t = (entry entries t).depth

-- how many types there are from a base on, if there is one
abbrev pub depth_from : List LineEntry → Option ℕ → ℕ
depth_from entries base = option_map_or (depth entries) base 0

-- the type farther along to which t leads at once
abbrev pub jump : List LineEntry → ℕ → ℕ
jump entries t = (entry entries t).jump

-- The jump of t leads to its base, or where the jump of its base's jump leads. Without a base it leads to t.
abbrev pub is_jump : (ℕ → ℕ) → ℕ → Option ℕ → Bool
is_jump jumps t None = nat_eq (jumps t) t
is_jump jumps t (Some b) = nat_eq (jumps t) b || nat_eq (jumps t) (jumps (jumps b))

-- there is one type more from t on than from its base on, and at most as many as there are types
abbrev pub is_depth : List TypeHead → List LineEntry → ℕ → Bool
is_depth heads entries t = nat_eq (depth entries t) (depth_from entries (base heads t) + 1) && not (nat_lt (length heads) (depth entries t))

-- the entry of type t fits those of the types farther along
abbrev pub entry_fits : List TypeHead → List LineEntry → ℕ → Bool
entry_fits heads entries t = is_depth heads entries t && is_jump (jump entries) t (base heads t)

-- each type has an entry, and all of them fit
abbrev pub entries_fit : List TypeHead → List LineEntry → Bool
entries_fit heads entries = nat_eq (length entries) (length heads) && list_all (entry_fits heads entries) (all_types heads)

-- if there is a table, then its entries fit
abbrev pub AreAncestors : List TypeHead → Option Ancestors → Type 0
AreAncestors heads table = (a : Ancestors) → table ≡ Some a → entries_fit heads a.entries.items ≡ true

-- type t and those that it inherits from, nearest first, as many as its entry says
abbrev pub line_from : List TypeHead → List LineEntry → ℕ → List ℕ
line_from heads entries t = line_within (depth entries t) heads (Some t)
