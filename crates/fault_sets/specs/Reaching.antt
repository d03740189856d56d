-- What is met while types are reached.
use Rattle.std.specs.Prelude.{◌≡◌, ℕ, List, ◌++◌}
use Rattle.type_heads.specs.Members.{has}
use Rattle.type_heads.specs.Cycles.{fresh}

-- two lists have the same numbers
abbrev pub HasNumbers : List ℕ → List ℕ → Type 0
HasNumbers set seen = (n : ℕ) → has n set ≡ has n seen

-- those of some types that weren't met are put at the end, and met
abbrev pub AddsFresh : List ℕ → List ℕ → List ℕ → List ℕ → List ℕ → Type 0
AddsFresh met into types met' into' =
    (seen : List ℕ) → HasNumbers met seen → (into' ≡ into ++ fresh seen types) × HasNumbers met' (seen ++ fresh seen types)
