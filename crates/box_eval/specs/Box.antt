-- Boxes, their points, and boxes inside boxes.
use Rattle.std.specs.Prelude.{◌≡◌, ℕ, List, length, map, slice_get, slice_set, ℤ, pos, ◌+ℤ◌, ◌≤ℤ◌, ◌<ℤ◌, ◌<◌}
use Rattle.std.specs.Option.{option_map_or}
use Rattle.box_eval.specs.declared.bounds.Pair.{Pair}
use Rattle.box_eval.specs.declared.cut.Cut.{Cut}
use Rattle.box_eval.specs.declared.cut.Side.{Side}
use Rattle.box_eval.specs.declared.cut.Side.TheVariants.{Low, High}

-- a slot's ends
abbrev pub pair : ℤ → ℤ → Pair
pair low high = record { low = low; high = high }

-- the least value of a slot; a slot past the last has the value 0 alone
abbrev pub low_at : List Pair → ℕ → ℤ
low_at ends slot = option_map_or (λ p. p.low) (slice_get ends slot) (pos 0)

-- the greatest value of a slot
abbrev pub high_at : List Pair → ℕ → ℤ
high_at ends slot = option_map_or (λ p. p.high) (slice_get ends slot) (pos 0)

-- what a point gives a slot; a slot past the last has 0
abbrev pub value_of : List ℤ → ℕ → ℤ
value_of point slot = option_map_or (λ v. v) (slice_get point slot) (pos 0)

-- ends that are a box: each low end is at most its high end
pub record IsBox (ends : List Pair) : Type 0 where
  pub ordered : (slot : ℕ) → low_at ends slot ≤ℤ high_at ends slot

-- a point of a box: a value between the ends, for each slot
pub record IsPointOf (ends : List Pair) (point : List ℤ) : Type 0 where
  pub as_long : length point ≡ length ends
  pub above : (slot : ℕ) → low_at ends slot ≤ℤ value_of point slot
  pub below : (slot : ℕ) → value_of point slot ≤ℤ high_at ends slot

-- a box inside another
pub record IsInside (inner outer : List Pair) : Type 0 where
  pub as_long : length inner ≡ length outer
  pub above : (slot : ℕ) → low_at outer slot ≤ℤ low_at inner slot
  pub below : (slot : ℕ) → high_at inner slot ≤ℤ high_at outer slot

-- a box of one point
pub record IsOnePoint (ends : List Pair) : Type 0 where
  pub same : (slot : ℕ) → low_at ends slot ≡ high_at ends slot

-- the box whose one point this is
abbrev pub box_of : List ℤ → List Pair
box_of point = map (λ v. pair v v) point

-- the part of a box in which a slot is at most v
abbrev pub up_to : List Pair → ℕ → ℤ → List Pair
up_to ends slot v = slice_set ends slot (pair (low_at ends slot) v)

-- the part of a box in which a slot is at least v
abbrev pub from : List Pair → ℕ → ℤ → List Pair
from ends slot v = slice_set ends slot (pair v (high_at ends slot))

-- the part of a box in which a slot is v
abbrev pub fixed : List Pair → ℕ → ℤ → List Pair
fixed ends slot v = slice_set ends slot (pair v v)

-- ---- cuts

-- the cut of a slot at a value, with the part of that side first
abbrev pub cut_at : Side → ℕ → ℤ → Cut
cut_at side slot value = record { side = side; slot = slot; value = value }

-- the part of a box that comes first if a slot is cut at a value, and the part that comes second
abbrev pub first_at : Side → List Pair → ℕ → ℤ → List Pair
first_at Low ends slot v = up_to ends slot v
first_at High ends slot v = from ends slot (v +ℤ pos 1)

abbrev pub second_at : Side → List Pair → ℕ → ℤ → List Pair
second_at Low ends slot v = from ends slot (v +ℤ pos 1)
second_at High ends slot v = up_to ends slot v

abbrev pub first_part : Cut → List Pair → List Pair
first_part cut ends = first_at cut.side ends cut.slot cut.value

abbrev pub second_part : Cut → List Pair → List Pair
second_part cut ends = second_at cut.side ends cut.slot cut.value

-- the end of a slot on a side: its low or its high end
abbrev pub end_at : Side → List Pair → ℕ → ℤ
end_at Low ends slot = low_at ends slot
end_at High ends slot = high_at ends slot

-- a cut of a box: a slot of it, and a value that leaves both parts one
pub record IsCutOf (ends : List Pair) (cut : Cut) : Type 0 where
  pub slot_there : cut.slot < length ends
  pub low : low_at ends cut.slot ≤ℤ cut.value
  pub high : cut.value <ℤ high_at ends cut.slot
