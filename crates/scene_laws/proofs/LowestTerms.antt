-- Constants in lowest terms.
use Rattle.std.proofs.Common.{◌≡◌, ℕ, zero, suc, ◌/◌, ◌≤◌, ◌<◌, ◌^◌, max, refl, sym, subst, true, false, arith}
use Rattle.std.specs.Prelude.{ℤ, pos, negsuc, neg_ℤ, nat_eq, nat_lt, nat_le, int_le, unsigned_abs}
use Rattle.std.specs.Int.{IsGcd, ◌∣◌}
use Rattle.std.proofs.lemmas.Int.{ints}
use Rattle.std.proofs.lemmas.Nat.Gcd.{dvd_antisymm}
use Rattle.std.proofs.Math.Nat.{one-dvd, div-le_self, one-le-pow, pow-le-pow_right, pos_of_dvd_of_pos, mul-div_cancel', dvd-mul_left}
use Rattle.field_flatten.specs.osc_base.Number.{Number, whole}
use Rattle.field_flatten.specs.osc_base.Comparisons.{greatest_part}
use Rattle.field_flatten.specs.osc_base.LowestTerms.{gcd, share, lowest, decimal_number}
use Rattle.field_flatten.proofs.of_osc_base.Multiples.{lowest_terms}
use Rattle.expansion_laws.specs.expr_nodes.Sizes.{Size, constant_size, is_wide}
use Rattle.expansion_laws.specs.expr_nodes.Sound.{is_lowest}
use Rattle.field_flatten.proofs.Tests.{both}
use Rattle.field_flatten.proofs.of_osc_base.Divisors.{gcd_is}

-- a number that isn't above the limit
pub within : (most n : ℕ) → n ≤ most → nat_lt most n ≡ false
within most n h = grind arith

pub below : (most n : ℕ) → nat_lt most n ≡ false → n ≤ most
below most n h = grind arith

at_most : (a b : ℕ) → nat_le a b ≡ true → a ≤ b
at_most a b h = grind arith

pub le_more : (a b c : ℕ) → a ≤ b → b ≤ c → a ≤ c
le_more a b c p q = omega (arith, p, q)

-- a billion and 10 to the power 18 are within the limit
pub billion : 1000000000 ≤ greatest_part
billion = at_most 1000000000 greatest_part refl

pub long_decimal : 10 ^ 18 ≤ greatest_part
long_decimal = at_most (10 ^ 18) greatest_part refl

pub narrow_size : (s : Size) → s.scale ≤ greatest_part → s.reach ≤ greatest_part → is_wide s ≡ false
narrow_size s p q = rw (within greatest_part s.scale p, within greatest_part s.reach q) refl

max_one : (n most : ℕ) → 1 ≤ most → n ≤ most → max 1 n ≤ most
max_one n most p q = grind arith

pub narrow_constant : (n : Number) → unsigned_abs n.denominator ≤ greatest_part → unsigned_abs n.numerator ≤ greatest_part → is_wide (constant_size n) ≡ false
narrow_constant n p q = narrow_size (constant_size n) p (max_one (unsigned_abs n.numerator) greatest_part (at_most 1 greatest_part refl) q)

-- the greatest common divisor of two numbers without a common divisor
pub gcd_one : (a b : ℕ) → IsGcd a b 1 → gcd a b ≡ 1
gcd_one a b is = let g = gcd_is a b in dvd_antisymm (is.2 (gcd a b) g.0 g.1) (one-dvd (gcd a b))

pub lowest_whole : (n : ℤ) → is_lowest (whole n) ≡ true
lowest_whole n =
    let one : gcd (unsigned_abs n) 1 ≡ 1 = gcd_one (unsigned_abs n) 1 (one-dvd (unsigned_abs n), one-dvd 1, λ d p q. q) in
    rw one refl

shared : (top : ℤ) (d : ℕ) → unsigned_abs (share top d) ≡ unsigned_abs top / d
shared (pos n) d = refl
shared (negsuc n) d = by (suc n / d)
  where
    by : (m : ℕ) → unsigned_abs (neg_ℤ (pos m)) ≡ m
    by zero = refl
    by (suc m) = refl

one_least : (n : ℕ) → 0 < n → int_le (pos 1) (pos n) ≡ true
one_least n h = grind (arith, ints)

module _ (top : ℤ) (bottom : ℕ) (above : 0 < bottom) where
  g_is : IsGcd (unsigned_abs top) bottom (gcd (unsigned_abs top) bottom)
  g_is = gcd_is (unsigned_abs top) bottom

  g_above : 0 < gcd (unsigned_abs top) bottom
  g_above = pos_of_dvd_of_pos g_is.1 above

  bottom_above : 0 < bottom / gcd (unsigned_abs top) bottom
  bottom_above = pos_of_dvd_of_pos (subst (λ n. bottom / gcd (unsigned_abs top) bottom ∣ n) (mul-div_cancel' (gcd (unsigned_abs top) bottom) g_is.1) (dvd-mul_left (bottom / gcd (unsigned_abs top) bottom) (gcd (unsigned_abs top) bottom))) above

  pub lowest_is : is_lowest (lowest top bottom) ≡ true
  lowest_is =
      let g = gcd (unsigned_abs top) bottom in
      let one : gcd (unsigned_abs top / g) (bottom / g) ≡ 1 = gcd_one (unsigned_abs top / g) (bottom / g) (lowest_terms (unsigned_abs top) bottom g g_above g_is) in
      both (int_le (pos 1) (pos (bottom / g))) (nat_eq (gcd (unsigned_abs (share top g)) (bottom / g)) 1) (one_least (bottom / g) bottom_above)
      (subst (λ n. nat_eq (gcd n (bottom / g)) 1 ≡ true) (sym (shared top g)) (subst (λ n. nat_eq n 1 ≡ true) (sym one) refl))

  pub lowest_narrow : bottom ≤ greatest_part → unsigned_abs top ≤ greatest_part → is_wide (constant_size (lowest top bottom)) ≡ false
  lowest_narrow p q =
      let g = gcd (unsigned_abs top) bottom in
      narrow_constant (lowest top bottom) (le_more (bottom / g) bottom greatest_part (div-le_self bottom g) p)
      (subst (λ n. n ≤ greatest_part) (sym (shared top g)) (le_more (unsigned_abs top / g) (unsigned_abs top) greatest_part (div-le_self (unsigned_abs top) g) q))

-- digits of a token: 18 of them at most, of which some are after the point
module _ (digits places : ℕ) (few : digits < 10 ^ 18) (short : places ≤ 18) where
  scale_above : 0 < 10 ^ places
  scale_above = one-le-pow places 10 (omega arith)

  pub decimal_lowest : is_lowest (decimal_number digits places) ≡ true
  decimal_lowest = lowest_is (pos digits) (10 ^ places) scale_above

  pub decimal_narrow : is_wide (constant_size (decimal_number digits places)) ≡ false
  decimal_narrow =
      lowest_narrow (pos digits) (10 ^ places) scale_above (le_more (10 ^ places) (10 ^ 18) greatest_part (pow-le-pow_right (omega arith) short) long_decimal)
      (le_more digits (10 ^ 18) greatest_part (lt_le digits (10 ^ 18) few) long_decimal)
    where
      lt_le : (a b : ℕ) → a < b → a ≤ b
      lt_le a b h = omega (arith, h)
