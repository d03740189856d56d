-- Greatest common divisors by Euclid, step by step, and least common multiples.
use Rattle.std.proofs.Common.{◌≡◌, ◌∙◌, ℕ, zero, suc, ◌*◌, ◌/◌, ◌%◌, ◌≤◌, ◌<◌, refl, sym, subst, arith, lit<, to_z}
use Rattle.std.specs.Int.{w128, IsGcd, ◌∣◌}
use Rattle.std.specs.Prelude.{◌^◌, pos, ◌≤ℤ◌}
use Rattle.std.proofs.Math.Nat.{one-le-pow, pow-le-pow_right, div-le_self, pos_of_dvd_of_pos, dvd-mul_left, mul-div_cancel'}
use Rattle.std.proofs.lemmas.Int.{ints, to_z_pos}
use Rattle.std.proofs.lemmas.Nat.Gcd.{IsGcd-from_zero, IsGcd-from_mod}
use Rattle.osc_base.specs.LowestTerms.{gcd_within, gcd, lcm}
use Rattle.osc_base.specs.Number.{IsLeastCommonMultiple}
use Rattle.osc_base.proofs.Multiples.{is_least_common_multiple, lowest_same}

-- steps above the second number don't count
enough : (n m a b : ℕ) → b ≤ n → b ≤ m → gcd_within (suc n) a b ≡ gcd_within (suc m) a b
enough n m a zero p q = refl
enough zero m a (suc b) p q = absurd (omega arith)
enough (suc n) zero a (suc b) p q = absurd (omega arith)
enough (suc n) (suc m) a (suc b) p q = enough n m (suc b) (a % suc b) (omega arith) (omega arith)

by_step : (a b : ℕ) → gcd a (suc b) ≡ gcd (suc b) (a % suc b)
unfolding gcd
by_step a b = enough b (a % suc b) (suc b) (a % suc b) (omega arith) (omega arith)

pub gcd_step : (a b : ℕ) → 0 < b → gcd a b ≡ gcd b (a % b)
gcd_step a zero above = absurd (omega arith)
gcd_step a (suc b) above = by_step a b

pub gcd_end : (a : ℕ) → gcd a 0 ≡ a
unfolding gcd
gcd_end a = refl

-- it divides both numbers, and each common divisor divides it
gcd_is_within : (steps a b : ℕ) → b < steps → IsGcd a b (gcd_within steps a b)
gcd_is_within zero a b few = absurd (omega arith)
gcd_is_within (suc steps) a zero few = IsGcd-from_zero a zero refl
gcd_is_within (suc steps) a (suc b) few = IsGcd-from_mod a (suc b) (gcd_within steps (suc b) (a % suc b)) (gcd_is_within steps (suc b) (a % suc b) (omega arith))

pub gcd_is : (a b : ℕ) → IsGcd a b (gcd a b)
unfolding gcd
gcd_is a b = gcd_is_within (suc b) a b (omega arith)

pub greatest : (a b g : ℕ) → g ≡ gcd a b → IsGcd a b g
greatest a b g is = subst (IsGcd a b) (sym is) (gcd_is a b)

-- it is above 0 if one of the numbers is
pub gcd_above : (a b : ℕ) → 0 < a → 0 < gcd a b
gcd_above a b above = pos_of_dvd_of_pos (gcd_is a b).0 above

pub gcd_above_second : (a b : ℕ) → 0 < b → 0 < gcd a b
gcd_above_second a b above = pos_of_dvd_of_pos (gcd_is a b).1 above

-- a number above 0 over its divisor
pub share_above : (a b : ℕ) → 0 < b → 0 < b / gcd a b
share_above a b above =
    let g = gcd_is a b in
    pos_of_dvd_of_pos (subst (λ n. b / gcd a b ∣ n) (mul-div_cancel' (gcd a b) g.1) (dvd-mul_left (b / gcd a b) (gcd a b))) above

-- a power of ten
pub power_above : (scale places : ℕ) → scale ≡ 10 ^ places → 0 < scale
power_above scale places is = rw is (one-le-pow places 10 (omega arith))

pub share_stored : (scale g places : ℕ) → places ≤ 18 → scale ≡ 10 ^ places → 0 < scale / g → pos 1 ≤ℤ to_z w128 (scale / g)
share_stored scale g places few is above =
    let small : scale ≤ 10 ^ 18 = rw is (pow-le-pow_right (lit< {n = 10} tt) few) in
    rw (to_z_pos w128 (scale / g) (omega (arith, div-le_self scale g, small))) (omega (arith, ints, above))

-- ---- the least common multiple

pub lcm_is : (a b : ℕ) → lcm a b ≡ a * (b / gcd a b)
unfolding lcm
lcm_is a b = refl

product_above : (a k : ℕ) → 0 < a → 0 < k → 0 < a * k
product_above a zero p q = absurd (omega arith)
product_above a (suc k) p q = omega arith

pub lcm_above : (a b : ℕ) → 0 < a → 0 < b → 0 < lcm a b
lcm_above a b p q = rw (lcm_is a b) (product_above a (b / gcd a b) p (share_above a b q))

pub lcm_least : (a b : ℕ) → 0 < a → IsLeastCommonMultiple a b (lcm a b)
lcm_least a b above =
    let is = gcd_is a b in
    subst (IsLeastCommonMultiple a b) (lowest_same a b (gcd a b) is.0 is.1 ∙ sym (lcm_is a b)) (is_least_common_multiple a b (gcd a b) above is)
