-- Fractions over their least common denominator.
use Rattle.std.proofs.Common.{◌≡◌, ℕ, ◌*◌, ◌/◌, ◌^◌, ◌<◌, ◌≤◌, subst, sym, ap, ◌∙◌, arith, lit<, to_z, of_z}
use Rattle.std.specs.Int.{w128}
use Rattle.std.specs.Prelude.{ℤ, pos, ◌+ℤ◌, ◌*ℤ◌, ◌≤ℤ◌, unsigned_abs}
use Rattle.std.specs.Ordering.{int_cmp}
use Rattle.std.specs.Int.{◌∣◌, IsGcd}
use Rattle.std.proofs.Math.IntN.{pos-*ℤ-pos}
use Rattle.std.proofs.Math.Nat.{div-mul_cancel, mul-div_cancel', dvd-mul_left, dvd-mul_right, one-le-pow, pow-le-pow_right, pos_of_dvd_of_pos, div-le_self}
use Rattle.std.proofs.lemmas.Int.{ints, fits_signed_from_abs, to_z-of_z, to_z_pos}
use Rattle.osc_base.specs.declared.fraction.Fraction.{Fraction}
use Rattle.osc_base.specs.Fraction.{OverCommon, value}
use Rattle.osc_base.specs.Number.{IsLeastCommonMultiple, IsSame, IsWithin, order, plus}
use Rattle.osc_base.proofs.Integers.{assoc, abs_above}
use Rattle.osc_base.proofs.Numbers.{order_same, sum_same}
use Rattle.osc_base.proofs.Multiples.{lowest_same, lowest_terms}

-- a part that is within bounds is read back as it was stored
pub read_back : (z : ℤ) → IsWithin z → to_z w128 (of_z w128 z) ≡ z
read_back z small = to_z-of_z w128 z (fits_signed_from_abs w128 z (omega arith))

-- a part that was computed, within bounds
pub stored : (r z : ℤ) → IsWithin z × (r ≡ z) → to_z w128 (of_z w128 r) ≡ z
stored r z is = rw is.1 (read_back z is.0)

pub stored_pos : (r n : ℕ) → n ≤ 2 ^ 120 → r ≡ n → to_z w128 r ≡ pos n
stored_pos r n small same = rw same (to_z_pos w128 n (omega arith))

abbrev pub widened_num : Fraction → ℕ → ℤ
widened_num f common = f.num *ℤ pos (common / unsigned_abs f.den)

pub widened_same : (f : Fraction) (common : ℕ) → unsigned_abs f.den ∣ common → widened_num f common *ℤ f.den ≡ f.num *ℤ pos common
widened_same f common divides =
    assoc f.num (pos (common / unsigned_abs f.den)) f.den
    ∙ ap (λ z. f.num *ℤ (pos (common / unsigned_abs f.den) *ℤ z)) (sym (abs_above f.den f.positive))
    ∙ ap (λ z. f.num *ℤ z) (pos-*ℤ-pos (common / unsigned_abs f.den) (unsigned_abs f.den) ∙ ap pos (div-mul_cancel (unsigned_abs f.den) divides))

abbrev pub over_common : (f g : Fraction) (common : ℕ) → IsLeastCommonMultiple (unsigned_abs f.den) (unsigned_abs g.den) common → OverCommon f g
over_common f g common is = record {
  common = common;
  left = widened_num f common;
  right = widened_num g common;
  is_common = is;
  left_same = widened_same f common is.first;
  right_same = widened_same g common is.second;
}

-- the least common denominator is above 0
pub den_above : (f : Fraction) → 0 < unsigned_abs f.den
den_above f = let e : pos 1 ≤ℤ f.den = f.positive in omega (arith, ints)

pub common_above : (f g : Fraction) (common : ℕ) → IsLeastCommonMultiple (unsigned_abs f.den) (unsigned_abs g.den) common → 0 < common
common_above f g common is =
    pos_of_dvd_of_pos (is.least (unsigned_abs f.den * unsigned_abs g.den) (dvd-mul_right (unsigned_abs f.den) (unsigned_abs g.den)) (dvd-mul_left (unsigned_abs g.den) (unsigned_abs f.den)))
    (grind (arith, den_above f, den_above g))

pub common_above_z : (f g : Fraction) (over : OverCommon f g) → pos 1 ≤ℤ pos over.common
common_above_z f g over = let e = common_above f g over.common over.is_common in omega (arith, ints)

-- two fractions over their least common denominator compare as the numbers
pub order_of : (f g : Fraction) (over : OverCommon f g) → int_cmp over.left over.right ≡ order (value f) (value g)
order_of f g over = order_same over.left over.right (pos over.common) f.num f.den g.num g.den f.positive g.positive (common_above_z f g over) over.left_same over.right_same

-- and add as the numbers
pub sum_of : (f g : Fraction) (over : OverCommon f g) (num den : ℤ) → num ≡ over.left +ℤ over.right → den ≡ pos over.common
    → IsSame (record { numerator = num; denominator = den }) (plus (value f) (value g))
sum_of f g over num den top under = rw (top, under) (sum_same over.left over.right (pos over.common) f.num f.den g.num g.den over.left_same over.right_same)

-- a decimal fraction in lowest terms
module _ (digits places top scale g : ℕ) (small : digits ≤ 999999999999999999) (few : places ≤ 18) (is_top : top ≡ digits) (is_scale : scale ≡ 10 ^ places)
    (divisor : IsGcd top scale g) where
  scale_above : 0 < scale
  scale_above = rw is_scale (one-le-pow places 10 (omega arith))

  scale_small : scale ≤ 10 ^ 18
  scale_small = rw is_scale (pow-le-pow_right (lit< {n = 10} tt) few)

  pub scale_divisor_above : 0 < g
  scale_divisor_above = pos_of_dvd_of_pos divisor.1 scale_above

  num_is : to_z w128 (top / g) ≡ pos (top / g)
  num_is = to_z_pos w128 (top / g) (omega (arith, div-le_self top g))

  den_is : to_z w128 (scale / g) ≡ pos (scale / g)
  den_is = to_z_pos w128 (scale / g) (omega (arith, div-le_self scale g, scale_small))

  quotient_above : 0 < scale / g
  quotient_above = pos_of_dvd_of_pos (subst (λ n. scale / g ∣ n) (mul-div_cancel' g divisor.1) (dvd-mul_left (scale / g) g)) scale_above

  pub decimal_positive : pos 1 ≤ℤ to_z w128 (scale / g)
  decimal_positive = rw den_is (omega (arith, ints, quotient_above))

  pub decimal_same : to_z w128 (top / g) *ℤ pos (10 ^ places) ≡ pos digits *ℤ to_z w128 (scale / g)
  decimal_same = rw (num_is, den_is, pos-*ℤ-pos (top / g) (10 ^ places), pos-*ℤ-pos digits (scale / g), ← is_top, ← is_scale)
      (ap pos (lowest_same top scale g divisor.0 divisor.1))

  pub decimal_lowest : IsGcd (unsigned_abs (to_z w128 (top / g))) (unsigned_abs (to_z w128 (scale / g))) 1
  decimal_lowest = rw (num_is, den_is) (lowest_terms top scale g scale_divisor_above divisor)
