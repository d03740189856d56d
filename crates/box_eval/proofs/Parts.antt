-- The parts of a box at a value of a slot.
use Rattle.std.proofs.Common.{◌≡◌, refl, sym, ap, ◌∙◌, ◌⊎◌, inl, inr, ⊎_elim, ℕ, suc, zero, ◌<◌, ◌≤◌, List, [], ◌∷◌, length, slice_set, ℤ, pos, ◌+ℤ◌, ◌≤ℤ◌, ◌<ℤ◌, arith}
use Rattle.std.proofs.lemmas.Int.{ints, by_lt_z}
use Rattle.std.proofs.lemmas.Bool.{cases_eq}
use Rattle.std.proofs.lemmas.List.{length-set}
use Rattle.box_eval.specs.declared.bounds.Pair.{Pair}
use Rattle.box_eval.specs.declared.cut.Cut.{Cut}
use Rattle.box_eval.specs.declared.cut.Side.{Side}
use Rattle.box_eval.specs.declared.cut.Side.TheVariants.{Low, High}
use Rattle.box_eval.specs.Box.{low_at, high_at, value_of, IsBox, IsInside, IsPointOf, up_to, from, fixed, first_at, second_at, first_part, second_part, end_at, IsCutOf}

-- ---- a slot that is given other ends

pub low_set_same : (ends : List Pair) (slot : ℕ) (p : Pair) → slot < length ends → low_at (slice_set ends slot p) slot ≡ p.low
low_set_same [] slot p h = absurd (omega arith)
low_set_same (e ∷ es) zero p h = refl
low_set_same (e ∷ es) (suc slot) p h = low_set_same es slot p (omega arith)

pub high_set_same : (ends : List Pair) (slot : ℕ) (p : Pair) → slot < length ends → high_at (slice_set ends slot p) slot ≡ p.high
high_set_same [] slot p h = absurd (omega arith)
high_set_same (e ∷ es) zero p h = refl
high_set_same (e ∷ es) (suc slot) p h = high_set_same es slot p (omega arith)

pub low_set_other : (ends : List Pair) (slot other : ℕ) (p : Pair) → (other ≡ slot → ⊥) → low_at (slice_set ends slot p) other ≡ low_at ends other
low_set_other [] slot other p n = refl
low_set_other (e ∷ es) zero zero p n = absurd (n refl)
low_set_other (e ∷ es) zero (suc other) p n = refl
low_set_other (e ∷ es) (suc slot) zero p n = refl
low_set_other (e ∷ es) (suc slot) (suc other) p n = low_set_other es slot other p (λ same. n (ap suc same))

pub high_set_other : (ends : List Pair) (slot other : ℕ) (p : Pair) → (other ≡ slot → ⊥) → high_at (slice_set ends slot p) other ≡ high_at ends other
high_set_other [] slot other p n = refl
high_set_other (e ∷ es) zero zero p n = absurd (n refl)
high_set_other (e ∷ es) zero (suc other) p n = refl
high_set_other (e ∷ es) (suc slot) zero p n = refl
high_set_other (e ∷ es) (suc slot) (suc other) p n = high_set_other es slot other p (λ same. n (ap suc same))

-- the ends of one slot, in two boxes
pub record Ends2 (p q : Pair) : Type 0 where
  pub above : q.low ≤ℤ p.low
  pub below : p.high ≤ℤ q.high

module _ (ends : List Pair) (slot : ℕ) (p : Pair) (there : slot < length ends) where
  pub box_set : IsBox ends → p.low ≤ℤ p.high → IsBox (slice_set ends slot p)
  box_set box h = record {
    ordered = λ other. elim (cases_eq other slot) as (λ _. low_at (slice_set ends slot p) other ≤ℤ high_at (slice_set ends slot p) other) [
      | inl same ↦ rw same (omega (arith, ints, low_set_same ends slot p there, high_set_same ends slot p there))
      | inr differs ↦ omega (arith, ints, low_set_other ends slot other p differs, high_set_other ends slot other p differs, box.ordered other)
    ];
  }

  pub inside_set : low_at ends slot ≤ℤ p.low → p.high ≤ℤ high_at ends slot → IsInside (slice_set ends slot p) ends
  inside_set h k = record {
    as_long = length-set ends slot p;
    above = λ other. elim (cases_eq other slot) as (λ _. low_at ends other ≤ℤ low_at (slice_set ends slot p) other) [
      | inl same ↦ rw same (omega (arith, ints, low_set_same ends slot p there))
      | inr differs ↦ omega (arith, ints, low_set_other ends slot other p differs)
    ];
    below = λ other. elim (cases_eq other slot) as (λ _. high_at (slice_set ends slot p) other ≤ℤ high_at ends other) [
      | inl same ↦ rw same (omega (arith, ints, high_set_same ends slot p there))
      | inr differs ↦ omega (arith, ints, high_set_other ends slot other p differs)
    ];
  }

  pub point_set : (point : List ℤ) → IsPointOf ends point → p.low ≤ℤ value_of point slot → value_of point slot ≤ℤ p.high → IsPointOf (slice_set ends slot p) point
  point_set point of h k = record {
    as_long = of.as_long ∙ sym (length-set ends slot p);
    above = λ other. elim (cases_eq other slot) as (λ _. low_at (slice_set ends slot p) other ≤ℤ value_of point other) [
      | inl same ↦ rw same (omega (arith, ints, low_set_same ends slot p there))
      | inr differs ↦ omega (arith, ints, low_set_other ends slot other p differs, of.above other)
    ];
    below = λ other. elim (cases_eq other slot) as (λ _. value_of point other ≤ℤ high_at (slice_set ends slot p) other) [
      | inl same ↦ rw same (omega (arith, ints, high_set_same ends slot p there))
      | inr differs ↦ omega (arith, ints, high_set_other ends slot other p differs, of.below other)
    ];
  }

-- ---- boxes inside boxes

pub inside_self : (ends : List Pair) → IsInside ends ends
inside_self ends = record { as_long = refl; above = λ slot. omega (arith, ints); below = λ slot. omega (arith, ints) }

pub inside_trans : (a b c : List Pair) → IsInside a b → IsInside b c → IsInside a c
inside_trans a b c h k = record {
  as_long = h.as_long ∙ k.as_long;
  above = λ slot. omega (arith, ints, h.above slot, k.above slot);
  below = λ slot. omega (arith, ints, h.below slot, k.below slot);
}

-- a point of a box is one of each box around it
pub point_around : (a b : List Pair) (point : List ℤ) → IsInside a b → IsPointOf a point → IsPointOf b point
point_around a b point h p = record {
  as_long = p.as_long ∙ h.as_long;
  above = λ slot. omega (arith, ints, h.above slot, p.above slot);
  below = λ slot. omega (arith, ints, h.below slot, p.below slot);
}

-- one slot is given other ends in two boxes
pub inside_both : (inner outer : List Pair) (slot : ℕ) (p q : Pair) → slot < length outer → IsInside inner outer → q.low ≤ℤ p.low → p.high ≤ℤ q.high → IsInside (slice_set inner slot p) (slice_set outer slot q)
inside_both inner outer slot p q there h l k =
    let there' : slot < length inner = omega (arith, h.as_long) in
    record {
      as_long = length-set inner slot p ∙ (h.as_long ∙ sym (length-set outer slot q));
      above = λ other. elim (cases_eq other slot) as (λ _. low_at (slice_set outer slot q) other ≤ℤ low_at (slice_set inner slot p) other) [
        | inl same ↦ rw same (omega (arith, ints, low_set_same inner slot p there', low_set_same outer slot q there))
        | inr differs ↦ omega (arith, ints, low_set_other inner slot other p differs, low_set_other outer slot other q differs, h.above other)
      ];
      below = λ other. elim (cases_eq other slot) as (λ _. high_at (slice_set inner slot p) other ≤ℤ high_at (slice_set outer slot q) other) [
        | inl same ↦ rw same (omega (arith, ints, high_set_same inner slot p there', high_set_same outer slot q there))
        | inr differs ↦ omega (arith, ints, high_set_other inner slot other p differs, high_set_other outer slot other q differs, h.below other)
      ];
    }

-- ---- the two parts at a value

module _ (ends : List Pair) (slot : ℕ) (v : ℤ) (there : slot < length ends) where
  pub up_to_box : IsBox ends → low_at ends slot ≤ℤ v → IsBox (up_to ends slot v)
  up_to_box box h = box_set ends slot _ there box h

  pub up_to_inside : v ≤ℤ high_at ends slot → IsInside (up_to ends slot v) ends
  up_to_inside h = inside_set ends slot _ there (omega (arith, ints)) h

  pub from_box : IsBox ends → v ≤ℤ high_at ends slot → IsBox (from ends slot v)
  from_box box h = box_set ends slot _ there box h

  pub from_inside : low_at ends slot ≤ℤ v → IsInside (from ends slot v) ends
  from_inside h = inside_set ends slot _ there h (omega (arith, ints))

  pub fixed_box : IsBox ends → IsBox (fixed ends slot v)
  fixed_box box = box_set ends slot _ there box (omega (arith, ints))

  pub fixed_inside : low_at ends slot ≤ℤ v → v ≤ℤ high_at ends slot → IsInside (fixed ends slot v) ends
  fixed_inside h k = inside_set ends slot _ there h k

  -- if the slot is fixed at a value, that part lies in each part that keeps the value
  pub fixed_in_up_to : (w : ℤ) → low_at ends slot ≤ℤ v → v ≤ℤ w → IsInside (fixed ends slot v) (up_to ends slot w)
  fixed_in_up_to w h k = inside_both ends ends slot _ _ there (inside_self ends) h k

  pub fixed_in_from : (w : ℤ) → w ≤ℤ v → v ≤ℤ high_at ends slot → IsInside (fixed ends slot v) (from ends slot w)
  fixed_in_from w h k = inside_both ends ends slot _ _ there (inside_self ends) h k

  -- a shorter part lies in a longer one
  pub up_to_longer : (w : ℤ) → v ≤ℤ w → IsInside (up_to ends slot v) (up_to ends slot w)
  up_to_longer w h = inside_both ends ends slot _ _ there (inside_self ends) (omega (arith, ints)) h

  pub from_longer : (w : ℤ) → w ≤ℤ v → IsInside (from ends slot v) (from ends slot w)
  from_longer w h = inside_both ends ends slot _ _ there (inside_self ends) h (omega (arith, ints))

  -- each point of the box lies in one of the two parts
  pub cut_point : (point : List ℤ) → IsPointOf ends point → IsPointOf (up_to ends slot v) point ⊎ IsPointOf (from ends slot (v +ℤ pos 1)) point
  cut_point point p = by_lt_z v (value_of point slot)
      (λ more. inr (point_set ends slot _ there point p (omega (arith, ints)) (p.below slot)))
      (λ most. inl (point_set ends slot _ there point p (p.above slot) most))

-- ---- the two parts of a cut

module _ (ends : List Pair) (slot : ℕ) (v : ℤ) (there : slot < length ends) (low : low_at ends slot ≤ℤ v) (high : v <ℤ high_at ends slot) where
  first_at_box : (side : Side) → IsBox ends → IsBox (first_at side ends slot v)
  first_at_box Low box = up_to_box ends slot v there box low
  first_at_box High box = from_box ends slot (v +ℤ pos 1) there box (omega (arith, ints))

  second_at_box : (side : Side) → IsBox ends → IsBox (second_at side ends slot v)
  second_at_box Low box = from_box ends slot (v +ℤ pos 1) there box (omega (arith, ints))
  second_at_box High box = up_to_box ends slot v there box low

  first_at_inside : (side : Side) → IsInside (first_at side ends slot v) ends
  first_at_inside Low = up_to_inside ends slot v there (omega (arith, ints))
  first_at_inside High = from_inside ends slot (v +ℤ pos 1) there (omega (arith, ints))

  second_at_inside : (side : Side) → IsInside (second_at side ends slot v) ends
  second_at_inside Low = from_inside ends slot (v +ℤ pos 1) there (omega (arith, ints))
  second_at_inside High = up_to_inside ends slot v there (omega (arith, ints))

  cut_at_point : (side : Side) (point : List ℤ) → IsPointOf ends point → IsPointOf (first_at side ends slot v) point ⊎ IsPointOf (second_at side ends slot v) point
  cut_at_point Low point p = cut_point ends slot v there point p
  cut_at_point High point p = ⊎_elim inr inl (cut_point ends slot v there point p)

  -- if a slot is fixed at the end of a side, that part lies in the first part of a cut of this side
  fixed_in_first_at : (side : Side) → IsInside (fixed ends slot (end_at side ends slot)) (first_at side ends slot v)
  fixed_in_first_at Low = fixed_in_up_to ends slot (low_at ends slot) there v (omega (arith, ints)) low
  fixed_in_first_at High = fixed_in_from ends slot (high_at ends slot) there (v +ℤ pos 1) (omega (arith, ints)) (omega (arith, ints))

module _ (ends : List Pair) (cut : Cut) (is : IsCutOf ends cut) where
  pub first_part_box : IsBox ends → IsBox (first_part cut ends)
  first_part_box = first_at_box ends cut.slot cut.value is.slot_there is.low is.high cut.side

  pub second_part_box : IsBox ends → IsBox (second_part cut ends)
  second_part_box = second_at_box ends cut.slot cut.value is.slot_there is.low is.high cut.side

  pub first_part_inside : IsInside (first_part cut ends) ends
  first_part_inside = first_at_inside ends cut.slot cut.value is.slot_there is.low is.high cut.side

  pub second_part_inside : IsInside (second_part cut ends) ends
  second_part_inside = second_at_inside ends cut.slot cut.value is.slot_there is.low is.high cut.side

  -- each point of the box lies in one of the two parts
  pub cut_parts_point : (point : List ℤ) → IsPointOf ends point → IsPointOf (first_part cut ends) point ⊎ IsPointOf (second_part cut ends) point
  cut_parts_point = cut_at_point ends cut.slot cut.value is.slot_there is.low is.high cut.side

  pub fixed_in_first : IsInside (fixed ends cut.slot (end_at cut.side ends cut.slot)) (first_part cut ends)
  fixed_in_first = fixed_in_first_at ends cut.slot cut.value is.slot_there is.low is.high cut.side

-- ---- a slot with two values or more is one of the box

pub low_past : (ends : List Pair) (slot : ℕ) → length ends ≤ slot → low_at ends slot ≡ high_at ends slot
low_past [] slot h = refl
low_past (p ∷ ps) zero h = absurd (omega arith)
low_past (p ∷ ps) (suc slot) h = low_past ps slot (omega arith)

pub wide_there : (ends : List Pair) (slot : ℕ) → low_at ends slot <ℤ high_at ends slot → slot < length ends
wide_there ends slot wide = by_lt_or ends slot wide
  where
    by_lt_or : (es : List Pair) (s : ℕ) → low_at es s <ℤ high_at es s → s < length es
    by_lt_or [] s w = absurd (omega (arith, ints, w))
    by_lt_or (p ∷ ps) zero w = omega arith
    by_lt_or (p ∷ ps) (suc s) w = omega (arith, by_lt_or ps s w)

-- the end of a side lies between both
pub end_between : (side : Side) (ends : List Pair) (slot : ℕ) → low_at ends slot ≤ℤ high_at ends slot → (low_at ends slot ≤ℤ end_at side ends slot) × (end_at side ends slot ≤ℤ high_at ends slot)
end_between Low ends slot box = (omega (arith, ints), box)
end_between High ends slot box = (box, omega (arith, ints))
