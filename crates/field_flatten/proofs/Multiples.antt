-- Common multiples of scales.
use Rattle.std.proofs.Common.{◌≡◌, ℕ, zero, suc, ◌*◌, ◌/◌, ◌<◌, refl, sym, ◌∙◌, subst, arith}
use Rattle.std.specs.Int.{◌∣◌}
use Rattle.std.proofs.Math.Nat.{mul_comm, mul-div_cancel', pos_of_dvd_of_pos, dvd-mul_left, dvd_antisymm}
use Rattle.osc_base.specs.LowestTerms.{gcd, lcm}
use Rattle.osc_base.proofs.Divisors.{gcd_is, lcm_least}
use Rattle.osc_base.proofs.Multiples.{lowest_same}

-- a scale, and a number that it is multiplied with
pub record Common (a b : ℕ) : Type 0 where
  pub left : ℕ
  pub right : ℕ
  pub left_is : lcm a b ≡ a * left
  pub right_is : lcm a b ≡ b * right
  pub above : 0 < lcm a b

pub product_positive : (a b : ℕ) → 0 < a → 0 < b → 0 < a * b
product_positive zero b p q = elim p [ ]
product_positive (suc a) zero p q = elim q [ ]
product_positive (suc a) (suc b) p q = grind arith

pub common : (a b : ℕ) → 0 < a → 0 < b → Common a b
unfolding lcm
common a b p q =
    let g = gcd_is a b in
    let share : 0 < b / gcd a b = pos_of_dvd_of_pos (subst (λ n. b / gcd a b ∣ n) (mul-div_cancel' (gcd a b) g.1) (dvd-mul_left (b / gcd a b) (gcd a b))) q in
    record {
      left = b / gcd a b;
      right = a / gcd a b;
      left_is = refl;
      right_is = sym (lowest_same a b (gcd a b) g.0 g.1) ∙ mul_comm (a / gcd a b) b;
      above = product_positive a (b / gcd a b) p share;
    }

-- a multiple over what it is a multiple of
pub share_of : (a k : ℕ) → 0 < a → (a * k) / a ≡ k
share_of a k p = grind arith

-- the order of the two doesn't matter
pub lcm_swap : (a b : ℕ) → 0 < a → 0 < b → lcm a b ≡ lcm b a
lcm_swap a b p q =
    let one = lcm_least a b p in
    let two = lcm_least b a q in
    dvd_antisymm (one.least (lcm b a) two.second two.first) (two.least (lcm a b) one.second one.first)
