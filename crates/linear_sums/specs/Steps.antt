-- Steps over a row with a number for each slot: factors are added, and taken off for their least value.
use Rattle.std.specs.Prelude.{◌≡◌, ◌≢◌, ℕ, ◌+◌, ◌*◌, ◌≤◌, ◌^◌, suc, max, List, [], ◌∷◌, length, unsigned_abs, ℤ, pos, ◌+ℤ◌, ◌*ℤ◌}
use Rattle.box_eval.specs.declared.bounds.Pair.{Pair}
use Rattle.box_eval.specs.Box.{value_of}
use Rattle.linear_sums.specs.Linear.{least_in}

-- each number may grow by so much
abbrev pub HasRoom : List ℤ → ℕ → Type 0
HasRoom sums more = (slot : ℕ) → unsigned_abs (value_of sums slot) + more ≤ 2 ^ 121

-- so many times the factors were added
pub record IsAdded (old new : List ℤ) (times : ℤ) (factor : ℕ → ℤ) : Type 0 where
  pub as_long : length new ≡ length old
  pub at : (slot : ℕ) → value_of new slot ≡ value_of old slot +ℤ times *ℤ factor slot

-- how large the parts of factors times slots get in a box, together
abbrev pub size_in : (ℕ → ℤ) → List Pair → ℕ
size_in factor [] = 0
size_in factor (p ∷ ps) = unsigned_abs (factor 0) * max (unsigned_abs p.low) (unsigned_abs p.high) + size_in (λ slot. factor (suc slot)) ps

-- the numbers of the slots with these factors were set to 0, and the least values of their parts in the box added up
pub record IsTaken (ends : List Pair) (old new : List ℤ) (factor : ℕ → ℤ) (least : ℤ) : Type 0 where
  pub as_long : length new ≡ length old
  pub taken : least +ℤ least_in (value_of new) ends ≡ least_in (value_of old) ends
  pub smaller : unsigned_abs least + size_in (value_of new) ends ≤ size_in (value_of old) ends
  pub cleared : (slot : ℕ) → factor slot ≢ pos 0 → value_of new slot ≡ pos 0
  pub stays : (slot : ℕ) → value_of old slot ≡ pos 0 → value_of new slot ≡ pos 0
