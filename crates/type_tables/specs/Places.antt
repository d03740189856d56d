-- The place of each name in a list.
use Rattle.std.specs.Prelude.{◌≡◌, ℕ, Bool, true, not, List, [], ◌∷◌, Option, Some, None, bytes_eq, cond, nat_lt, option_and_then}
use Rattle.std.specs.HashMap.{get_by_text}
use Rattle.std.specs.List.{list_any}
use Rattle.type_members.specs.name_scope.Declaring.{first_place}
use Rattle.type_tables.specs.declared.first_places.FirstPlaces.{FirstPlaces}

-- the place that is kept for a name
abbrev pub place_in : FirstPlaces → List ℕ → Option ℕ
place_in t name = get_by_text t.places name

-- the first place of each name of the things of a list is kept
abbrev pub HasPlaces : {T : Type 0} → FirstPlaces → (T → List ℕ) → List T → Type 0
HasPlaces t name_of things = (name : List ℕ) → place_in t name ≡ first_place (λ x. bytes_eq (name_of x) name) 0 things

-- at most one thing passes
abbrev pub passes_once : {T : Type 0} → (T → Bool) → List T → Bool
passes_once test [] = true
passes_once test (x ∷ xs) = cond (test x) (not (list_any test xs)) (passes_once test xs)

-- no name is there twice
abbrev pub AreDistinct : {T : Type 0} → (T → List ℕ) → List T → Type 0
AreDistinct name_of things = (name : List ℕ) → passes_once (λ x. bytes_eq (name_of x) name) things ≡ true

-- if places are kept, they are the first places; if names are said to be distinct, they are
abbrev pub Places : {T : Type 0} → FirstPlaces → (T → List ℕ) → List T → Type 0
Places t name_of things = (t.is_kept ≡ true → HasPlaces t name_of things) × (t.is_distinct ≡ true → AreDistinct name_of things)

-- a place, if it is among the first n
abbrev pub low_place : ℕ → Option ℕ → Option ℕ
low_place n place = option_and_then (λ i. cond (nat_lt i n) (Some i) None) place

-- a place, if it isn't among the first n
abbrev pub high_place : ℕ → Option ℕ → Option ℕ
high_place n place = option_and_then (λ i. cond (nat_lt i n) None (Some i)) place
