-- Ranks of types, by which it is seen that steps from a type don't lead back to it.
use Rattle.std.specs.Prelude.{◌≡◌, ℕ, ◌+◌, ◌<◌, ◌&&◌, Bool, true, false, not, List, [], ◌∷◌, length, nat_lt, slice_index_or}
use Rattle.std.specs.List.{list_all}
use Rattle.type_heads.specs.Cycles.{returns}
use Rattle.fault_sets.specs.declared.returning.Ranking.{Ranking}

-- the rank of a type
abbrev pub rank : List ℕ → ℕ → ℕ
rank ranks t = slice_index_or ranks t 0

-- a step from type t leads to one of the types, and not to a higher rank
abbrev pub is_level : ℕ → List ℕ → ℕ → ℕ → Bool
is_level count ranks t x = nat_lt x count && not (nat_lt (rank ranks t) (rank ranks x))

-- no step from the types after number t leads to a higher rank, given to which types each of them leads
abbrev pub level_from : ℕ → List ℕ → ℕ → List (List ℕ) → Bool
level_from count ranks t [] = true
level_from count ranks t (xs ∷ rest) = list_all (is_level count ranks t) xs && level_from count ranks (t + 1) rest

-- each step from type t leads to a lower rank
abbrev pub falls : List ℕ → ℕ → List ℕ → Bool
falls ranks t xs = list_all (λ x. nat_lt (rank ranks x) (rank ranks t)) xs

-- what is kept of steps and ranks shows that steps from type t don't lead back to it
abbrev pub shows : Ranking → ℕ → Bool
shows r t = nat_lt t (length r.next.items) && falls r.ranks.items t (slice_index_or r.next.items t [])

-- what is shown is so
abbrev pub IsShown : ℕ → (ℕ → List ℕ) → Ranking → Type 0
IsShown count step r = (t : ℕ) → shows r t ≡ true → returns count step t ≡ false

-- the lists are where steps lead from each of so many types
abbrev pub AreNext : ℕ → (ℕ → List ℕ) → List (List ℕ) → Type 0
AreNext count step next = (length next ≡ count) × ((t : ℕ) → t < count → slice_index_or next t [] ≡ step t)

-- if any lists are kept, they are where steps lead from each of so many types, and no step leads to a higher rank
abbrev pub HasLevels : ℕ → (ℕ → List ℕ) → Ranking → Type 0
HasLevels count step r = 0 < length r.next.items → AreNext count step r.next.items × (level_from (length r.next.items) r.ranks.items 0 r.next.items ≡ true)
