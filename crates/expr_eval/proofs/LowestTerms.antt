-- Lowest terms: one number has one fraction in lowest terms.
use Rattle.std.proofs.Common.{◌≡◌, ◌∙◌, refl, sym, ap, ap₂, subst, ℕ, zero, suc, ◌*◌, ◌/◌, ◌<◌, arith}
use Rattle.std.specs.Prelude.{ℤ, pos, negsuc, neg_ℤ, ◌*ℤ◌, unsigned_abs}
use Rattle.std.specs.Int.{◌∣◌}
use Rattle.std.proofs.Math.IntN.{pos-*ℤ-pos, negsuc-*ℤ-pos}
use Rattle.std.proofs.Math.Nat.{mul_comm, mul-div-mul_right, mul-dvd-mul_right, div-mul_cancel, dvd-mul_left, dvd_trans, dvd_of_mul-dvd-mul_right}
use Rattle.std.proofs.lemmas.Int.{unsigned_abs-mul}
use Rattle.std.proofs.lemmas.Nat.Gcd.{same_from_IsGcd}
use Rattle.osc_base.specs.LowestTerms.{gcd, share, lowest}
use Rattle.expr_nodes.proofs.of_osc_base.Divisors.{gcd_is}

module _ (a b k : ℕ) (above : 0 < k) where
  -- the greatest common divisor of two numbers, both times k
  pub gcd_times : gcd (a * k) (b * k) ≡ gcd a b * k
  gcd_times = same_from_IsGcd (a * k) (b * k) (gcd (a * k) (b * k)) (gcd a b * k) (gcd_is (a * k) (b * k)) (
    mul-dvd-mul_right (gcd a b) (gcd_is a b).0 k,
    mul-dvd-mul_right (gcd a b) (gcd_is a b).1 k,
    λ d p q. dvd_trans d (divides d p q) (more d p q),
  )
    where
      found : ℕ
      found = gcd (a * k) (b * k)

      -- k divides it, and what it is times divides both
      whole : found / k * k ≡ found
      whole = div-mul_cancel k ((gcd_is (a * k) (b * k)).2 k (dvd-mul_left k a) (dvd-mul_left k b))

      first : found / k ∣ a
      first = dvd_of_mul-dvd-mul_right (found / k) above (subst (λ n. n ∣ a * k) (sym whole) (gcd_is (a * k) (b * k)).0)

      second : found / k ∣ b
      second = dvd_of_mul-dvd-mul_right (found / k) above (subst (λ n. n ∣ b * k) (sym whole) (gcd_is (a * k) (b * k)).1)

      divides : (d : ℕ) → d ∣ a * k → d ∣ b * k → d ∣ found
      divides d p q = (gcd_is (a * k) (b * k)).2 d p q

      more : (d : ℕ) → d ∣ a * k → d ∣ b * k → found ∣ gcd a b * k
      more d p q = subst (λ n. n ∣ gcd a b * k) whole (mul-dvd-mul_right (found / k) ((gcd_is a b).2 (found / k) first second) k)

share_neg : (x g : ℕ) → 0 < x → share (neg_ℤ (pos x)) g ≡ neg_ℤ (pos (x / g))
share_neg zero g above = absurd (omega arith)
share_neg (suc x) g above = refl

times_above : (n k : ℕ) → 0 < n → 0 < k → 0 < n * k
times_above n zero p q = absurd (omega arith)
times_above n (suc k) p q = omega arith

share_times : (top : ℤ) (g k : ℕ) → 0 < k → share (top *ℤ pos k) (g * k) ≡ share top g
share_times (pos n) g k above = ap (λ z. share z (g * k)) (pos-*ℤ-pos n k) ∙ ap pos (mul-div-mul_right n g above)
share_times (negsuc n) g k above =
    ap (λ z. share z (g * k)) (negsuc-*ℤ-pos n k) ∙ share_neg (suc n * k) (g * k) (times_above (suc n) k (omega arith) above) ∙ ap (λ m. neg_ℤ (pos m)) (mul-div-mul_right (suc n) g above)

lowest_times : (top : ℤ) (bottom k : ℕ) → 0 < k → lowest (top *ℤ pos k) (bottom * k) ≡ lowest top bottom
lowest_times top bottom k above =
    let abs : unsigned_abs (top *ℤ pos k) ≡ unsigned_abs top * k = unsigned_abs-mul top (pos k) in
    let g : gcd (unsigned_abs (top *ℤ pos k)) (bottom * k) ≡ gcd (unsigned_abs top) bottom * k = ap (λ n. gcd n (bottom * k)) abs ∙ gcd_times (unsigned_abs top) bottom k above in
    ap₂ (λ (z : ℤ) (n : ℕ). record { numerator = z; denominator = pos n })
    (ap (share (top *ℤ pos k)) g ∙ share_times top (gcd (unsigned_abs top) bottom) k above)
    (ap (λ n. bottom * k / n) g ∙ mul-div-mul_right bottom (gcd (unsigned_abs top) bottom) above)

-- two fractions for one number
pub one_lowest : (n m : ℤ) (s d : ℕ) → 0 < s → 0 < d → n *ℤ pos d ≡ m *ℤ pos s → lowest n s ≡ lowest m d
one_lowest n m s d s_above d_above same =
    sym (lowest_times n s d d_above) ∙ ap₂ lowest same (mul_comm s d) ∙ lowest_times m d s s_above
