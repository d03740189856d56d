-- A whole number is a number times a scale.
use Rattle.std.proofs.Common.{◌≡◌, ℕ, ◌*◌, ◌<◌, ◌&&◌, not, sym, ap, ap₂, ◌∙◌, subst, arith}
use Rattle.std.specs.Prelude.{ℤ, pos, neg_ℤ, ◌+ℤ◌, ◌-ℤ◌, ◌*ℤ◌, ◌≤ℤ◌, ◌<ℤ◌, int_lt, int_le}
use Rattle.std.proofs.Math.IntN.{pos-*ℤ-pos, *ℤ_comm, zero-*ℤ}
use Rattle.std.proofs.lemmas.Int.{ints, by_lt_z}
use Rattle.osc_base.specs.Number.{Number, plus, product}
use Rattle.osc_base.specs.Comparisons.{same_number, is_same, is_less, is_at_most}
use Rattle.osc_base.proofs.Integers.{assoc, spread, swap_last, lt_times, lt_cancel, product_above}
use Rattle.composition.specs.expr_nodes.Value.{opposite}

pub record IsTimes (x : Number) (scale : ℕ) (n : ℤ) : Type 0 where
  pub above : pos 1 ≤ℤ x.denominator
  pub same : x.numerator *ℤ pos scale ≡ n *ℤ x.denominator

pub widened : (x : Number) (d k : ℕ) (n : ℤ) → IsTimes x d n → IsTimes x (d * k) (n *ℤ pos k)
widened x d k n is = record {
  above = is.above;
  same = ap (λ z. x.numerator *ℤ z) (sym (pos-*ℤ-pos d k)) ∙ sym (assoc x.numerator (pos d) (pos k)) ∙ ap (λ z. z *ℤ pos k) is.same ∙ swap_last n x.denominator (pos k);
}

pub less_product : (a b c : ℤ) → (a -ℤ b) *ℤ c ≡ a *ℤ c -ℤ b *ℤ c
less_product a b c =
    let back : (a -ℤ b) +ℤ b ≡ a = omega (arith, ints) in
    let e : (a -ℤ b) *ℤ c +ℤ b *ℤ c ≡ a *ℤ c = sym (spread (a -ℤ b) b c) ∙ ap (λ z. z *ℤ c) back in
    omega (arith, ints)

opposite_product : (a b : ℤ) → neg_ℤ a *ℤ b ≡ pos 0 -ℤ (a *ℤ b)
opposite_product a b =
    let same : neg_ℤ a ≡ pos 0 -ℤ a = omega (arith, ints) in
    ap (λ z. z *ℤ b) same ∙ less_product (pos 0) a b ∙ ap (λ z. z -ℤ a *ℤ b) (zero-*ℤ b)

pub opposite_times : (x : Number) (e : ℕ) (n : ℤ) → IsTimes x e n → IsTimes (opposite x) e (pos 0 -ℤ n)
opposite_times x e n is = record {
  above = is.above;
  same = opposite_product x.numerator (pos e) ∙ ap (λ z. pos 0 -ℤ z) is.same ∙ sym (less_product (pos 0) n x.denominator ∙ ap (λ z. z -ℤ n *ℤ x.denominator) (zero-*ℤ x.denominator));
}

pub plus_times : (x y : Number) (e : ℕ) (n m : ℤ) → IsTimes x e n → IsTimes y e m → IsTimes (plus x y) e (n +ℤ m)
plus_times x y e n m is js = record {
  above = product_above x.denominator y.denominator is.above js.above;
  same = spread (x.numerator *ℤ y.denominator) (y.numerator *ℤ x.denominator) (pos e)
      ∙ ap₂ (◌+ℤ◌) (side x.numerator y.denominator n x.denominator is.same) (side y.numerator x.denominator m y.denominator js.same ∙ ap (λ z. m *ℤ z) (*ℤ_comm y.denominator x.denominator))
      ∙ sym (spread n m (x.denominator *ℤ y.denominator));
}
  where
    side : (a d n b : ℤ) → a *ℤ pos e ≡ n *ℤ b → (a *ℤ d) *ℤ pos e ≡ n *ℤ (b *ℤ d)
    side a d n b h = swap_last a d (pos e) ∙ ap (λ z. z *ℤ d) h ∙ assoc n b d

four : (a b c d : ℤ) → (a *ℤ b) *ℤ (c *ℤ d) ≡ (a *ℤ c) *ℤ (b *ℤ d)
four a b c d = sym (assoc (a *ℤ b) c d) ∙ ap (λ z. z *ℤ d) (swap_last a b c) ∙ assoc (a *ℤ c) b d

pub product_times : (x y : Number) (d e : ℕ) (n m : ℤ) → IsTimes x d n → IsTimes y e m → IsTimes (product x y) (d * e) (n *ℤ m)
product_times x y d e n m is js = record {
  above = product_above x.denominator y.denominator is.above js.above;
  same = ap (λ z. (x.numerator *ℤ y.numerator) *ℤ z) (sym (pos-*ℤ-pos d e)) ∙ four x.numerator y.numerator (pos d) (pos e)
      ∙ ap₂ (◌*ℤ◌) is.same js.same ∙ four n x.denominator m y.denominator;
}

-- what is held, over `per`
pub read_times : (held : ℤ) (per e k : ℕ) → 0 < per → e ≡ per * k → IsTimes (record { numerator = held; denominator = pos per }) e (pos k *ℤ held)
read_times held per e k above is = record {
  above = omega (arith, ints);
  same = ap (λ z. held *ℤ pos z) is ∙ ap (λ z. held *ℤ z) (sym (pos-*ℤ-pos per k)) ∙ ap (λ z. held *ℤ z) (*ℤ_comm (pos per) (pos k)) ∙ sym (assoc held (pos k) (pos per))
      ∙ ap (λ z. z *ℤ pos per) (*ℤ_comm held (pos k));
}

-- ---- comparisons

lt_same : (x y u v : ℤ) → (x <ℤ y → u <ℤ v) → (u <ℤ v → x <ℤ y) → int_lt x y ≡ int_lt u v
lt_same x y u v f g = by_lt_z x y
    (λ e. let h : u <ℤ v = f e in grind (arith, ints))
    (λ e. by_lt_z u v (λ h. absurd (let k : x <ℤ y = g h in omega (arith, ints))) (λ h. grind (arith, ints)))

le_is_not_lt : (x y : ℤ) → int_le x y ≡ not (int_lt y x)
le_is_not_lt x y = grind (arith, ints)

module _ (x y : Number) (e : ℕ) (n m : ℤ) (above : 0 < e) (is : IsTimes x e n) (js : IsTimes y e m) where
  abbrev left : ℤ
  left = x.numerator *ℤ y.denominator

  abbrev right : ℤ
  right = y.numerator *ℤ x.denominator

  abbrev under : ℤ
  under = x.denominator *ℤ y.denominator

  under_above : pos 1 ≤ℤ under
  under_above = product_above x.denominator y.denominator is.above js.above

  scale_above : pos 1 ≤ℤ pos e
  scale_above = omega (arith, ints)

  one : left *ℤ pos e ≡ n *ℤ under
  one = swap_last x.numerator y.denominator (pos e) ∙ ap (λ z. z *ℤ y.denominator) is.same ∙ assoc n x.denominator y.denominator

  two : right *ℤ pos e ≡ m *ℤ under
  two = swap_last y.numerator x.denominator (pos e) ∙ ap (λ z. z *ℤ x.denominator) js.same ∙ assoc m y.denominator x.denominator
      ∙ ap (λ z. m *ℤ z) (*ℤ_comm y.denominator x.denominator)

  up : left <ℤ right → n <ℤ m
  up h = lt_cancel n m under under_above (subst (λ z. z <ℤ (m *ℤ under)) one (subst (λ z. (left *ℤ pos e) <ℤ z) two (lt_times left right (pos e) scale_above h)))

  down : n <ℤ m → left <ℤ right
  down h = lt_cancel left right (pos e) scale_above (subst (λ z. z <ℤ (right *ℤ pos e)) (sym one) (subst (λ z. (n *ℤ under) <ℤ z) (sym two) (lt_times n m under under_above h)))

  up' : right <ℤ left → m <ℤ n
  up' h = lt_cancel m n under under_above (subst (λ z. z <ℤ (n *ℤ under)) two (subst (λ z. (right *ℤ pos e) <ℤ z) one (lt_times right left (pos e) scale_above h)))

  down' : m <ℤ n → right <ℤ left
  down' h = lt_cancel right left (pos e) scale_above (subst (λ z. z <ℤ (left *ℤ pos e)) (sym two) (subst (λ z. (m *ℤ under) <ℤ z) (sym one) (lt_times m n under under_above h)))

  pub less_is : is_less x y ≡ int_lt n m
  less_is = lt_same left right n m up down

  pub more_is : is_less y x ≡ int_lt m n
  more_is = lt_same right left m n up' down'

  pub at_most_is : is_at_most x y ≡ int_le n m
  at_most_is = le_is_not_lt left right ∙ ap not more_is ∙ sym (le_is_not_lt n m)

  pub at_least_is : is_at_most y x ≡ int_le m n
  at_least_is = le_is_not_lt right left ∙ ap not less_is ∙ sym (le_is_not_lt m n)

  pub same_is : is_same x y ≡ same_number n m
  same_is = ap₂ (◌&&◌) at_most_is at_least_is
