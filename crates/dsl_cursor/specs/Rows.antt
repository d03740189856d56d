-- What readers of rows of items ensure.
use Rattle.std.specs.Prelude.{◌≡◌, ◌≢◌, ◌<◌, ◌∷◌, ◌++◌}
use Rattle.dsl_cursor.specs.Terms.{ℕ, List, [], length, true, false, Option, Some, None, Result, Ok, Err, Stop, Memory, Token, Part, Of, rules, Forest, nil, wrong, sub, empty, opened, block_end}
use Rattle.dsl_cursor.specs.Descent.{read, is_arguments, optional}

-- What is left of a row is the part p. One more item was read, and what is left after it is again p.
abbrev pub Grows : {X : Type 0} → Part → (List X → Forest) → List Token → X → List Token → Type 0
Grows p rest old item new =
    (length new < length old)
    × ((others : List _) (end : List Token) → read p new ≡ Ok (rest others, end) → read p old ≡ Ok (rest (item ∷ others), end))
    × ((e : Stop ℕ) → read p new ≡ Err e → read p old ≡ Err e)

-- one more item was read, or the end of the row
abbrev pub IsNext : {X : Type 0} → Part → (List X → Forest) → List Token → Result (Option X) (Stop ℕ) → List Token → Type 0
IsNext p rest old (Ok (Some item)) new = Grows p rest old item new
IsNext p rest old (Ok None) new = read p old ≡ Ok (rest [], new)
IsNext p rest old (Err e) new = e ≢ Memory → read p old ≡ Err e

-- the items that a row was begun with, and those after them
pub record IsRow {X : Type 0} (p : Part) (rest : List X → Forest) (begun all : List X) (old new : List Token) : Type 0 where
  pub others : List X
  pub split : all ≡ begun ++ others
  pub reads : read p old ≡ Ok (rest others, new)

-- a block: the line end and the indentation, one item or more, and the end of the block
abbrev pub in_block : {X : Type 0} → (X → Forest) → (List X → Forest) → List X → Forest
in_block item rest [] = wrong
in_block item rest (x ∷ xs) = opened (sub (item x) (sub (rest xs) block_end))

-- any number of parts, one after another: the tail is such a row
abbrev pub IsItemRow : {X : Type 0} → Part → Part → (X → Forest) → (List X → Forest) → Type 0
IsItemRow {X} part tail item rest =
    (is_arguments tail ≡ false) × (empty tail ≡ true) × (optional (rules tail) ≡ Of part ∷ Of tail ∷ []) × (empty part ≡ false)
    × (rest [] ≡ nil) × ((x : X) (xs : List X) → rest (x ∷ xs) ≡ sub (item x) (sub (rest xs) nil))
