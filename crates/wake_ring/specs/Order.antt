-- How a list of numbers is linked in a ring. The number `end` stands before the first and after the last.
use Prim.Native.Nat.{zero, suc}
use Rattle.std.specs.Prelude.{◌≡◌, ◌≢◌, ℕ, ◌<◌, ◌≤◌, ◌^◌, ◌==◌, List, [], ◌∷◌, length, slice_index, if◌then◌else◌}
use Rattle.wake_ring.specs.Links.{Links, next_at, prev_at}

-- i is not in the list
abbrev pub Lacks : ℕ → List ℕ → Type 0
Lacks i [] = Unit {0}
Lacks i (x ∷ xs) = (i ≢ x) × Lacks i xs

-- no number is in the list twice
abbrev pub IsDistinct : List ℕ → Type 0
IsDistinct [] = Unit {0}
IsDistinct (x ∷ xs) = Lacks x xs × IsDistinct xs

abbrev pub AllBelow : ℕ → List ℕ → Type 0
AllBelow n [] = Unit {0}
AllBelow n (x ∷ xs) = (x < n) × AllBelow n xs

-- among a, the numbers and z, in this order: what comes after x, or x itself if x is none of them
abbrev pub after_in : ℕ → ℕ → List ℕ → ℕ → ℕ
after_in x a [] z = if x == a then z else x
after_in x a (b ∷ xs) z = if x == a then b else after_in x b xs z

-- and what stands before x
abbrev pub before_in : ℕ → ℕ → List ℕ → ℕ → ℕ
before_in x a [] z = if x == z then a else x
before_in x a (b ∷ xs) z = if x == b then a else before_in x b xs z

-- the n numbers from x on, each found by the link of the one before
abbrev pub walk : ℕ → ℕ → List ℕ → List ℕ
walk zero x nexts = []
walk (suc n) x nexts = x ∷ walk n (slice_index nexts x) nexts

-- the links of the numbers 0 to `end` are those of the list; a number that is not in the list is linked to itself
pub record IsRing (end : ℕ) (l : Links) (items : List ℕ) : Type 0 where
  pub few : end < 2 ^ 32
  pub nexts : length l.nexts ≡ suc end
  pub prevs : length l.prevs ≡ suc end
  pub distinct : IsDistinct items
  pub below : AllBelow end items
  pub forth : (x : ℕ) → x ≤ end → next_at l x ≡ after_in x end items end
  pub back : (x : ℕ) → x ≤ end → prev_at l x ≡ before_in x end items end

-- the n numbers that the links lead to from `end`
abbrev pub items_of : ℕ → ℕ → Links → List ℕ
items_of end n l = walk n (next_at l end) l.nexts
