-- The least common multiple, from the greatest common divisor.
use Rattle.std.proofs.Common.{◌≡◌, ℕ, zero, suc, ◌*◌, ◌/◌, ◌%◌, ◌≤◌, ◌<◌, refl, sym, ap, ◌∙◌, subst, arith}
use Rattle.std.specs.Int.{IsGcd, ◌∣◌}
use Rattle.std.proofs.Math.Nat.{mul_comm, mul_assoc, dvd_trans, dvd-zero, mul-dvd-mul_left, mul-dvd-mul_right, dvd_of_mul-dvd-mul_left, dvd_of_mul-dvd-mul_right, div-mul_cancel, mul-div_cancel', dvd-mul_left, dvd-mul_right, one-dvd, pos_of_dvd_of_pos, one-mul}
use Rattle.std.proofs.lemmas.Nat.Gcd.{IsGcd-from_zero, IsGcd-from_mod}
use Rattle.osc_base.specs.Number.{IsLeastCommonMultiple}

-- there is a greatest common divisor
gcd_up_to : (most a b : ℕ) → b ≤ most → (g : ℕ) × IsGcd a b g
gcd_up_to zero a b small = (a, IsGcd-from_zero a b (omega arith))
gcd_up_to (suc most) a zero small = (a, IsGcd-from_zero a zero refl)
gcd_up_to (suc most) a (suc b) small =
    let rest = gcd_up_to most (suc b) (a % suc b) (omega arith) in
    (rest.0, IsGcd-from_mod a (suc b) rest.0 rest.1)

-- what divides k * a and k * b divides k times their greatest common divisor
scaled : (n k a b g : ℕ) → 0 < k → IsGcd a b g → n ∣ k * a → n ∣ k * b → n ∣ k * g
scaled n k a b g above is p q =
    let found = gcd_up_to (k * b) (k * a) (k * b) (omega arith) in
    let whole : k * (found.0 / k) ≡ found.0 = mul-div_cancel' k (found.1.2 k (dvd-mul_right k a) (dvd-mul_right k b)) in
    let first : found.0 / k ∣ a = dvd_of_mul-dvd-mul_left (found.0 / k) above (rw whole found.1.0) in
    let second : found.0 / k ∣ b = dvd_of_mul-dvd-mul_left (found.0 / k) above (rw whole found.1.1) in
    let divides : k * (found.0 / k) ∣ k * g = mul-dvd-mul_left (found.0 / k) k (is.2 (found.0 / k) first second) in
    dvd_trans n (found.1.2 n p q) (rw whole at divides)

-- the product is the least common multiple times the greatest common divisor
product_is : (a b g : ℕ) → g ∣ a → a / g * b * g ≡ a * b
product_is a b g divides = mul_assoc (a / g) b g ∙ ap (λ n. a / g * n) (mul_comm b g) ∙ sym (mul_assoc (a / g) g b) ∙ ap (λ n. n * b) (div-mul_cancel g divides)

module _ (a b g : ℕ) (above : 0 < a) (is : IsGcd a b g) where
  pub divisor_above : 0 < g
  divisor_above = pos_of_dvd_of_pos is.0 above

  least_multiple : (other : ℕ) → a ∣ other → b ∣ other → a / g * b ∣ other
  least_multiple zero p q = dvd-zero (a / g * b)
  least_multiple (suc other) p q =
      let first : a * b ∣ suc other * a = subst (λ n. a * b ∣ n) (mul_comm a (suc other)) (mul-dvd-mul_left b a q) in
      let second : a * b ∣ suc other * b = mul-dvd-mul_right a p b in
      let both : a * b ∣ suc other * g = scaled (a * b) (suc other) a b g (omega arith) is first second in
      dvd_of_mul-dvd-mul_right (a / g * b) divisor_above (subst (λ n. n ∣ suc other * g) (sym (product_is a b g is.0)) both)

  pub is_least_common_multiple : IsLeastCommonMultiple a b (a / g * b)
  is_least_common_multiple = record {
    first = dvd_of_mul-dvd-mul_right a divisor_above (subst (λ n. a * g ∣ n) (sym (product_is a b g is.0)) (mul-dvd-mul_left g a is.1));
    second = dvd-mul_left b (a / g);
    least = least_multiple;
  }

-- a fraction in lowest terms
pub lowest_same : (a b g : ℕ) → g ∣ a → g ∣ b → a / g * b ≡ a * (b / g)
lowest_same a b g p q = ap (λ n. a / g * n) (sym (mul-div_cancel' g q)) ∙ sym (mul_assoc (a / g) g (b / g)) ∙ ap (λ n. n * (b / g)) (div-mul_cancel g p)

pub lowest_terms : (a b g : ℕ) → 0 < g → IsGcd a b g → IsGcd (a / g) (b / g) 1
lowest_terms a b g above is = (
  one-dvd (a / g),
  one-dvd (b / g),
  λ d p q.
      dvd_of_mul-dvd-mul_right d above (rw one-mul (is.2 (d * g) (subst (λ n. d * g ∣ n) (div-mul_cancel g is.0) (mul-dvd-mul_right d p g))
      (subst (λ n. d * g ∣ n) (div-mul_cancel g is.1) (mul-dvd-mul_right d q g)))),
)
