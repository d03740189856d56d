-- A queue of distinct numbers below a bound, as a list.
use Rattle.std.specs.Prelude.{ℕ, Bool, not, nat_eq, List, [], ◌∷◌, filter, Option, Some, None}
use Rattle.std.specs.List.{list_any}

-- the numbers in the queue, the next one to be taken first, and the bound that each is below
pub record Queue : Type 0 where
  pub bound : ℕ
  pub items : List ℕ

abbrev pub queue : ℕ → List ℕ → Queue
queue n xs = record { bound = n; items = xs }

-- whether the number i is in the list
abbrev pub is_in : ℕ → List ℕ → Bool
is_in i xs = list_any (nat_eq i) xs

-- the list with the number i left out
abbrev pub without : ℕ → List ℕ → List ℕ
without i xs = filter (λ x. not (nat_eq i x)) xs

-- the first number, if there is one
abbrev pub first : List ℕ → Option ℕ
first [] = None
first (x ∷ xs) = Some x

-- the numbers after the first
abbrev pub rest : List ℕ → List ℕ
rest [] = []
rest (x ∷ xs) = xs
