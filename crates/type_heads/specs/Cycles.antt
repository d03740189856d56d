-- What is reached from a number by steps, and whether steps lead back to it.
use Rattle.std.specs.Prelude.{ℕ, zero, suc, Bool, cond, List, [], ◌∷◌, ◌++◌, flat_map}
use Rattle.type_heads.specs.Members.{has}

-- the numbers that aren't among those seen, each once
abbrev pub fresh : List ℕ → List ℕ → List ℕ
fresh seen [] = []
fresh seen (x ∷ xs) = cond (has x seen) (fresh seen xs) (x ∷ fresh (x ∷ seen) xs)

-- All that is reached by steps from some numbers, those among them, in rounds: each takes one step from what is newly found. There are at
-- most as many rounds with something new as numbers.
abbrev pub reached : ℕ → (ℕ → List ℕ) → List ℕ → List ℕ → List ℕ
reached zero step found new = found
reached (suc rounds) step found [] = found
reached (suc rounds) step found (x ∷ xs) = reached rounds step (found ++ x ∷ xs) (fresh (found ++ x ∷ xs) (flat_map step (x ∷ xs)))

-- whether one or more steps lead from a number back to it
abbrev pub returns : ℕ → (ℕ → List ℕ) → ℕ → Bool
returns count step t = has t (reached (suc count) step [] (fresh [] (step t)))
