-- Ranks of types, by which it is seen that no type holds itself.
use Rattle.std.specs.Prelude.{ℕ, ◌&&◌, ◌||◌, Bool, true, not, List, ◌++◌, length, nat_lt}
use Rattle.std.specs.Option.{option_map_or}
use Rattle.std.specs.List.{list_all}
use Rattle.type_members.specs.type_heads.Table.{TypeHead, all_types, base}
use Rattle.type_members.specs.type_heads.Types.{TypeBody}
use Rattle.type_members.specs.type_heads.Members.{body, is_conditional}
use Rattle.heading_faults.specs.Holding.{fields_of}
use Rattle.fault_sets.specs.Ranking.{falls, rank}

-- the base of type t has no higher rank, and the same rank if t is a conditional subtype
abbrev pub base_fits : List TypeHead → List TypeBody → List ℕ → ℕ → Bool
base_fits heads bodies ranks t =
    option_map_or (λ b. not (nat_lt (rank ranks t) (rank ranks b)) && (not (is_conditional bodies t) || not (nat_lt (rank ranks b) (rank ranks t)))) (base heads t) true

-- the base of type t fits, and its fields have types of lower ranks
abbrev pub type_fits : List TypeHead → List TypeBody → List ℕ → ℕ → Bool
type_fits heads bodies ranks t = base_fits heads bodies ranks t && falls ranks t (fields_of heads ((body bodies t).own ++ (body bodies t).more))

-- all types fit, and each body is that of a type
abbrev pub types_fit : List TypeHead → List TypeBody → List ℕ → Bool
types_fit heads bodies ranks = not (nat_lt (length heads) (length bodies)) && list_all (type_fits heads bodies ranks) (all_types heads)
