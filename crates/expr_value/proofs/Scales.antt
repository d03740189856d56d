-- Numbers over a scale: how they are added, multiplied and compared.
use Rattle.std.proofs.Common.{◌≡◌, ◌∙◌, refl, sym, ap, ap₂, subst, ℕ, zero, suc, ◌*◌, ◌/◌, ◌%◌, ◌<◌, ◌≤◌, Bool, true, false, ◌&&◌, not, arith}
use Rattle.std.specs.Prelude.{ℤ, pos, neg_ℤ, ◌+ℤ◌, ◌*ℤ◌, ◌≤ℤ◌, ◌<ℤ◌, int_le, int_lt}
use Rattle.std.specs.Int.{◌∣◌}
use Rattle.std.proofs.Math.IntN.{pos-*ℤ-pos, zero-*ℤ, *ℤ_comm}
use Rattle.std.proofs.Math.Nat.{mul-div_cancel'}
use Rattle.std.proofs.lemmas.Int.{ints, by_lt_z}
use Rattle.expr_nodes.specs.osc_base.Number.{Number, plus, product, IsLeastCommonMultiple}
use Rattle.expr_nodes.specs.osc_base.Comparisons.{is_at_most}
use Rattle.expr_nodes.specs.osc_base.LowestTerms.{lcm}
use Rattle.expr_nodes.proofs.of_osc_base.Integers.{assoc, spread, swap_last, le_times, lt_times, le_cancel, lt_cancel, product_above}
use Rattle.expr_nodes.proofs.of_osc_base.Numbers.{over_more, sum_same}
use Rattle.expr_nodes.specs.declared.compare.Compare.{Compare}
use Rattle.expr_nodes.specs.Value.{opposite, of_truth, is_one, compares}
use Rattle.expr_nodes.proofs.of_osc_base.Divisors.{lcm_above, lcm_least}
use Rattle.expr_value.specs.Counted.{at_scale, truth_count, is_full, sum_count, compares_counts}

-- a count at a scale stands for a number
pub record IsWorth (n : ℤ) (s : ℕ) (w : Number) : Type 0 where
  pub above : pos 1 ≤ℤ w.denominator
  pub scale_above : 0 < s
  pub same : n *ℤ w.denominator ≡ w.numerator *ℤ pos s

-- ---- one number at a multiple of its scale

widened_same : (n m d : ℤ) (s common : ℕ) → s ∣ common → n *ℤ d ≡ m *ℤ pos s → at_scale common s n *ℤ d ≡ m *ℤ pos common
widened_same n m d s common divides same =
    swap_last n (pos (common / s)) d
    ∙ ap (λ z. z *ℤ pos (common / s)) same
    ∙ assoc m (pos s) (pos (common / s))
    ∙ ap (λ z. m *ℤ z) (pos-*ℤ-pos s (common / s) ∙ ap pos (mul-div_cancel' s divides))

-- ---- truth values

pub truth_worth : (b : Bool) → IsWorth (truth_count b) 1 (of_truth b)
truth_worth true = record { above = omega (arith, ints); scale_above = omega arith; same = refl }
truth_worth false = record { above = omega (arith, ints); scale_above = omega arith; same = refl }

le_same : (x y u v : ℤ) → (x ≤ℤ y → u ≤ℤ v) → (u ≤ℤ v → x ≤ℤ y) → int_le x y ≡ int_le u v
le_same x y u v f g = by_lt_z y x
    (λ e. by_lt_z v u (λ h. grind (arith, ints)) (λ h. absurd (let k : x ≤ℤ y = g h in omega (arith, ints))))
    (λ e. let h : u ≤ℤ v = f e in grind (arith, ints))

lt_same : (x y u v : ℤ) → (x <ℤ y → u <ℤ v) → (u <ℤ v → x <ℤ y) → int_lt x y ≡ int_lt u v
lt_same x y u v f g = by_lt_z x y
    (λ e. let h : u <ℤ v = f e in grind (arith, ints))
    (λ e. by_lt_z u v (λ h. absurd (let k : x <ℤ y = g h in omega (arith, ints))) (λ h. grind (arith, ints)))

-- the order of two numbers, at a common multiple of their scales
module _ (left right common a b c d : ℤ) (b_above : pos 1 ≤ℤ b) (d_above : pos 1 ≤ℤ d) (above : pos 1 ≤ℤ common)
    (first : left *ℤ b ≡ a *ℤ common) (second : right *ℤ d ≡ c *ℤ common) where
  one : left *ℤ (b *ℤ d) ≡ (a *ℤ d) *ℤ common
  one = over_more left b a common d first

  two : right *ℤ (b *ℤ d) ≡ (c *ℤ b) *ℤ common
  two = ap (λ z. right *ℤ z) (*ℤ_comm b d) ∙ over_more right d c common b second

  under : pos 1 ≤ℤ (b *ℤ d)
  under = product_above b d b_above d_above

  pub le_is : int_le left right ≡ int_le (a *ℤ d) (c *ℤ b)
  le_is = le_same left right (a *ℤ d) (c *ℤ b)
      (λ e. le_cancel (a *ℤ d) (c *ℤ b) common above (rw (← one, ← two) (le_times left right (b *ℤ d) under e)))
      (λ e. le_cancel left right (b *ℤ d) under (rw (one, two) (le_times (a *ℤ d) (c *ℤ b) common above e)))

  pub ge_is : int_le right left ≡ int_le (c *ℤ b) (a *ℤ d)
  ge_is = le_same right left (c *ℤ b) (a *ℤ d)
      (λ e. le_cancel (c *ℤ b) (a *ℤ d) common above (rw (← one, ← two) (le_times right left (b *ℤ d) under e)))
      (λ e. le_cancel right left (b *ℤ d) under (rw (one, two) (le_times (c *ℤ b) (a *ℤ d) common above e)))

  pub lt_is : int_lt left right ≡ int_lt (a *ℤ d) (c *ℤ b)
  lt_is = lt_same left right (a *ℤ d) (c *ℤ b)
      (λ e. lt_cancel (a *ℤ d) (c *ℤ b) common above (rw (← one, ← two) (lt_times left right (b *ℤ d) under e)))
      (λ e. lt_cancel left right (b *ℤ d) under (rw (one, two) (lt_times (a *ℤ d) (c *ℤ b) common above e)))

  pub gt_is : int_lt right left ≡ int_lt (c *ℤ b) (a *ℤ d)
  gt_is = lt_same right left (c *ℤ b) (a *ℤ d)
      (λ e. lt_cancel (c *ℤ b) (a *ℤ d) common above (rw (← one, ← two) (lt_times right left (b *ℤ d) under e)))
      (λ e. lt_cancel right left (b *ℤ d) under (rw (one, two) (lt_times (c *ℤ b) (a *ℤ d) common above e)))

pos_above : (s : ℕ) → 0 < s → pos 1 ≤ℤ pos s
pos_above s h = omega (arith, ints)

-- a count is worth 1
pub full_one : (n : ℤ) (s : ℕ) (w : Number) → IsWorth n s w → is_full s n ≡ is_one w
full_one n s w is = ap₂ (λ x y. x && y)
    (le_is n (pos s) (pos s) w.numerator w.denominator (pos 1) (pos 1) is.above (omega (arith, ints)) (pos_above s is.scale_above) is.same (*ℤ_comm (pos s) (pos 1)))
    (ge_is n (pos s) (pos s) w.numerator w.denominator (pos 1) (pos 1) is.above (omega (arith, ints)) (pos_above s is.scale_above) is.same (*ℤ_comm (pos s) (pos 1)))

module _ (n : ℤ) (s : ℕ) (x : Number) (m : ℤ) (t : ℕ) (y : Number) (left : IsWorth n s x) (right : IsWorth m t y) where
  common_above : 0 < lcm s t
  common_above = lcm_above s t left.scale_above right.scale_above

  first : at_scale (lcm s t) s n *ℤ x.denominator ≡ x.numerator *ℤ pos (lcm s t)
  first = widened_same n x.numerator x.denominator s (lcm s t) (lcm_least s t left.scale_above).first left.same

  second : at_scale (lcm s t) t m *ℤ y.denominator ≡ y.numerator *ℤ pos (lcm s t)
  second = widened_same m y.numerator y.denominator t (lcm s t) (lcm_least s t left.scale_above).second right.same

  pub sum_worth : IsWorth (sum_count s n t m) (lcm s t) (plus x y)
  sum_worth = record {
    above = product_above x.denominator y.denominator left.above right.above;
    scale_above = common_above;
    same = sum_same (at_scale (lcm s t) s n) (at_scale (lcm s t) t m) (pos (lcm s t)) x.numerator x.denominator y.numerator y.denominator first second;
  }

  le_both : int_le (at_scale (lcm s t) s n) (at_scale (lcm s t) t m) ≡ is_at_most x y
  le_both = le_is (at_scale (lcm s t) s n) (at_scale (lcm s t) t m) (pos (lcm s t)) x.numerator x.denominator y.numerator y.denominator left.above right.above (pos_above (lcm s t) common_above) first second

  ge_both : int_le (at_scale (lcm s t) t m) (at_scale (lcm s t) s n) ≡ is_at_most y x
  ge_both = ge_is (at_scale (lcm s t) s n) (at_scale (lcm s t) t m) (pos (lcm s t)) x.numerator x.denominator y.numerator y.denominator left.above right.above (pos_above (lcm s t) common_above) first second

  pub compares_same : (sign : Compare) → compares_counts sign s n t m ≡ compares sign x y
  compares_same Compare.Equal = ap₂ (λ p q. p && q) le_both ge_both
  compares_same Compare.Differ = ap₂ (λ p q. not (p && q)) le_both ge_both
  compares_same Compare.Below = lt_is (at_scale (lcm s t) s n) (at_scale (lcm s t) t m) (pos (lcm s t)) x.numerator x.denominator y.numerator y.denominator left.above right.above (pos_above (lcm s t) common_above) first second
  compares_same Compare.AtMost = le_both
  compares_same Compare.Above = gt_is (at_scale (lcm s t) s n) (at_scale (lcm s t) t m) (pos (lcm s t)) x.numerator x.denominator y.numerator y.denominator left.above right.above (pos_above (lcm s t) common_above) first second
  compares_same Compare.AtLeast = ge_both

  exchange : (a b c d : ℤ) → (a *ℤ b) *ℤ (c *ℤ d) ≡ (a *ℤ c) *ℤ (b *ℤ d)
  exchange a b c d = sym (assoc (a *ℤ b) c d) ∙ ap (λ z. z *ℤ d) (swap_last a b c) ∙ assoc (a *ℤ c) b d

  pub product_worth : IsWorth (n *ℤ m) (s * t) (product x y)
  product_worth = record {
    above = product_above x.denominator y.denominator left.above right.above;
    scale_above = product_positive s t left.scale_above right.scale_above;
    same = exchange n m x.denominator y.denominator ∙ ap₂ (λ p q. p *ℤ q) left.same right.same
        ∙ exchange x.numerator (pos s) y.numerator (pos t) ∙ ap (λ z. (x.numerator *ℤ y.numerator) *ℤ z) (pos-*ℤ-pos s t);
  }
    where
      product_positive : (a k : ℕ) → 0 < a → 0 < k → 0 < a * k
      product_positive a zero p q = absurd (omega arith)
      product_positive a (suc k) p q = omega arith

-- a number with the other sign
neg_times : (x y : ℤ) → neg_ℤ x *ℤ y ≡ neg_ℤ (x *ℤ y)
neg_times x y =
    let e : x *ℤ y +ℤ neg_ℤ x *ℤ y ≡ pos 0 = sym (spread x (neg_ℤ x) y) ∙ ap (λ z. z *ℤ y) {x = x +ℤ neg_ℤ x} {y = pos 0} (omega (arith, ints)) ∙ zero-*ℤ y in
    omega (arith, ints)

pub opposite_worth : (n : ℤ) (s : ℕ) (w : Number) → IsWorth n s w → IsWorth (neg_ℤ n) s (opposite w)
opposite_worth n s w is = record {
  above = is.above;
  scale_above = is.scale_above;
  same = neg_times n w.denominator ∙ ap neg_ℤ is.same ∙ sym (neg_times w.numerator (pos s));
}
