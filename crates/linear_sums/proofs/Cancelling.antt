-- Multiples that are equal, and multiples that cancel each other.
use Rattle.std.proofs.Common.{◌≡◌, sym, ap, ap₂, ◌∙◌, subst, ℕ, zero, suc, ◌*◌, ◌/◌, ◌≤◌, ◌<◌, ◌^◌, ℤ, pos, ◌+ℤ◌, ◌*ℤ◌, Option, Some, None, arith}
use Rattle.std.specs.Prelude.{unsigned_abs, MatchOption}
use Rattle.std.specs.Int.{◌∣◌}
use Rattle.std.proofs.lemmas.Int.{ints, unsigned_abs-mul}
use Rattle.std.proofs.lemmas.Nat.Gcd.{le_of_dvd}
use Rattle.std.proofs.Math.Nat.{mul_comm, div-mul_cancel, dvd-mul_left, dvd-mul_right, pos_of_dvd_of_pos, le_of_mul-le-mul_right, eq_of_mul-eq-mul_left, eq_of_mul-eq-mul_right}
use Rattle.std.proofs.Math.IntN.{*ℤ-zero, pos-*ℤ-pos}
use Rattle.osc_base.proofs.Integers.{assoc}
use Rattle.osc_base.specs.Number.{IsLeastCommonMultiple}
use Rattle.linear_sums.specs.declared.multiples.Multiples.{Multiples}
use Rattle.linear_sums.specs.Multiple.{IsLeast, NoLeast}
use Rattle.linear_sums.proofs.Products.{spread_left}
use Rattle.linear_sums.proofs.Weights.{part_left}

-- ---- equal multiples

some_count : (k a c : ℕ) → k * a ≡ c → 1 ≤ c → 1 ≤ k
some_count zero a c e h = absurd (omega (arith, e, h))
some_count (suc k) a c e h = omega arith

module _ (a b common : ℕ) (some_a : 0 < a) (some_b : 0 < b) (is : IsLeastCommonMultiple a b common) where
  some_common : 0 < common
  some_common = pos_of_dvd_of_pos (is.least (a * b) (dvd-mul_right a b) (dvd-mul_left b a)) (omega (arith, part_left a b some_b, some_a))

  whole_first : common / a * a ≡ common
  whole_first = div-mul_cancel a is.first

  whole_second : common / b * b ≡ common
  whole_second = div-mul_cancel b is.second

  module _ (i j : ℕ) (some : 1 ≤ i) (same : i * a ≡ j * b) where
    at_most : common ≤ i * a
    at_most = le_of_dvd (omega (arith, part_left a i some, some_a, mul_comm a i)) (is.least (i * a) (dvd-mul_left a i) (subst (λ n. b ∣ n) (sym same) (dvd-mul_left b j)))

    first_most : common / a ≤ i
    first_most = le_of_mul-le-mul_right (omega (arith, whole_first, at_most)) some_a

    second_most : common / b ≤ j
    second_most = le_of_mul-le-mul_right (omega (arith, whole_second, at_most, same)) some_b

  least_found : (m : Multiples) → m.first ≡ common / a → m.second ≡ common / b → common / a ≤ 1000000 → common / b ≤ 1000000 → IsLeast a b m
  least_found m e f few_first few_second = record {
    some_first = omega (arith, e, some_count (common / a) a common whole_first some_common);
    few_first = omega (arith, e, few_first);
    some_second = omega (arith, f, some_count (common / b) b common whole_second some_common);
    few_second = omega (arith, f, few_second);
    same = ap (λ n. n * a) e ∙ whole_first ∙ sym whole_second ∙ ap (λ n. n * b) (sym f);
    least = λ i j some same. (omega (arith, e, first_most i j some same), omega (arith, f, second_most i j some same));
  }

  pub too_large : ¬ (common ≤ 2 ^ 120) → NoLeast a b
  too_large large i j some few_i few_j same small = large (omega (arith, at_most i j some same, small))

  too_often : (common / a ≤ 1000000 → common / b ≤ 1000000 → ⊥) → NoLeast a b
  too_often often i j some few_i few_j same small = often (omega (arith, first_most i j some same, few_i)) (omega (arith, second_most i j some same, few_j))

pub counts : (a b common multiple : ℕ) → 0 < a → 0 < b → IsLeastCommonMultiple a b multiple → common ≡ multiple → (result : Option Multiples)
    → MatchOption result (common / a ≤ 1000000 → common / b ≤ 1000000 → ⊥) (λ m. ((m.first ≡ common / a) × (m.second ≡ common / b)) × ((common / a ≤ 1000000) × (common / b ≤ 1000000)))
    → MatchOption result (NoLeast a b) (IsLeast a b)
counts a b common multiple some_a some_b is same None often = too_often a b common some_a some_b (subst (IsLeastCommonMultiple a b) (sym same) is) often
counts a b common multiple some_a some_b is same (Some m) h = least_found a b common some_a some_b (subst (IsLeastCommonMultiple a b) (sym same) is) m h.0.0 h.0.1 h.1.0 h.1.1

-- ---- multiples that cancel

times_size : (i : ℕ) (x : ℤ) → unsigned_abs (pos i *ℤ x) ≡ i * unsigned_abs x
times_size i x = unsigned_abs-mul (pos i) x

opposite_size : (m n : ℤ) → m +ℤ n ≡ pos 0 → unsigned_abs m ≡ unsigned_abs n
opposite_size m n e = omega (arith, ints, e)

-- numbers of which so many times cancel are as large
pub equal_sizes : (i j : ℕ) (x y : ℤ) → pos i *ℤ x +ℤ pos j *ℤ y ≡ pos 0 → i * unsigned_abs x ≡ j * unsigned_abs y
equal_sizes i j x y e = sym (times_size i x) ∙ opposite_size (pos i *ℤ x) (pos j *ℤ y) e ∙ times_size j y

no_size : (n : ℤ) → unsigned_abs n ≡ 0 → n ≡ pos 0
no_size n e = omega (arith, ints, e)

pub no_product : (i : ℕ) (n : ℤ) → 1 ≤ i → pos i *ℤ n ≡ pos 0 → n ≡ pos 0
no_product i n some e =
    let size : i * unsigned_abs n ≡ i * 0 = sym (times_size i n) ∙ ap unsigned_abs e ∙ omega arith in
    no_size n (eq_of_mul-eq-mul_left i some (unsigned_abs n) 0 size)

regroup : (i l j k a b : ℕ) → k * a ≡ l * b → i * a ≡ j * b → (i * l) * a ≡ (j * k) * a
regroup i l j k a b e f =
    let p : (i * l) * a ≡ l * (i * a) = omega arith in
    let q : l * (j * b) ≡ j * (l * b) = omega arith in
    let r : j * (k * a) ≡ (j * k) * a = omega arith in
    p ∙ ap (λ n. l * n) f ∙ q ∙ ap (λ n. j * n) (sym e) ∙ r

moved : (i k : ℕ) (x : ℤ) → pos i *ℤ (pos k *ℤ x) ≡ pos (i * k) *ℤ x
moved i k x = sym (assoc (pos i) (pos k) x) ∙ ap (λ (n : ℤ). n *ℤ x) (pos-*ℤ-pos i k)

-- the least multiples cancel if others do
pub cancels_too : (k l i j a b : ℕ) (x y : ℤ) → 1 ≤ i → 0 < a → k * a ≡ l * b → i * a ≡ j * b → pos i *ℤ x +ℤ pos j *ℤ y ≡ pos 0 → pos k *ℤ x +ℤ pos l *ℤ y ≡ pos 0
cancels_too k l i j a b x y some_i some_a e f none =
    let cross : i * l ≡ j * k = eq_of_mul-eq-mul_right a some_a (i * l) (j * k) (regroup i l j k a b e f) in
    let first : pos i *ℤ (pos k *ℤ x) ≡ pos k *ℤ (pos i *ℤ x) = moved i k x ∙ ap (λ (n : ℕ). pos n *ℤ x) (mul_comm i k) ∙ sym (moved k i x) in
    let second : pos i *ℤ (pos l *ℤ y) ≡ pos k *ℤ (pos j *ℤ y) = moved i l y ∙ ap (λ (n : ℕ). pos n *ℤ y) (cross ∙ mul_comm j k) ∙ sym (moved k j y) in
    no_product i _ some_i
    (spread_left (pos i) (pos k *ℤ x) (pos l *ℤ y) ∙ ap₂ (λ (m n : ℤ). m +ℤ n) first second
    ∙ sym (spread_left (pos k) (pos i *ℤ x) (pos j *ℤ y)) ∙ ap (λ (n : ℤ). pos k *ℤ n) none ∙ *ℤ-zero (pos k))
