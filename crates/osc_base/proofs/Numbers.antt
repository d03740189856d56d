-- Numbers as fractions: one number in other terms.
use Rattle.std.proofs.Common.{◌≡◌, ◌/◌, refl, sym, ap, ◌∙◌, arith}
use Rattle.std.specs.Prelude.{ℤ, pos, negsuc, ◌+ℤ◌, ◌*ℤ◌, ◌≤ℤ◌, ◌<ℤ◌, int_lt}
use Rattle.std.specs.Int.{int_div_euclid}
use Rattle.std.specs.Ordering.{int_cmp}
use Rattle.std.proofs.Math.IntN.{*ℤ_comm}
use Rattle.std.proofs.lemmas.Int.{ints, by_lt_z}
use Rattle.osc_base.specs.Number.{Number, IsFloor, IsNearestThousandth, IsSame}
use Rattle.osc_base.proofs.Integers.{assoc, spread, swap_last, le_times, lt_times, le_cancel, lt_cancel, product_above}

-- x over b is a over d, both times c
pub over_more : (x b a d c : ℤ) → x *ℤ b ≡ a *ℤ d → x *ℤ (b *ℤ c) ≡ (a *ℤ c) *ℤ d
over_more x b a d c same = sym (assoc x b c) ∙ ap (λ z. z *ℤ c) same ∙ swap_last a d c

-- a sum over a common denominator
pub sum_same : (left right common a b c d : ℤ) → left *ℤ b ≡ a *ℤ common → right *ℤ d ≡ c *ℤ common
    → (left +ℤ right) *ℤ (b *ℤ d) ≡ (a *ℤ d +ℤ c *ℤ b) *ℤ common
sum_same left right common a b c d first second =
    let one : left *ℤ (b *ℤ d) ≡ (a *ℤ d) *ℤ common = over_more left b a common d first in
    let two : right *ℤ (b *ℤ d) ≡ (c *ℤ b) *ℤ common = ap (λ z. right *ℤ z) (*ℤ_comm b d) ∙ over_more right d c common b second in
    spread left right (b *ℤ d) ∙ ap (λ z. z +ℤ right *ℤ (b *ℤ d)) one ∙ ap (λ z. (a *ℤ d) *ℤ common +ℤ z) two ∙ sym (spread (a *ℤ d) (c *ℤ b) common)

-- an order is kept by a factor above 0
lt_same : (x y u v : ℤ) → (x <ℤ y → u <ℤ v) → (u <ℤ v → x <ℤ y) → int_lt x y ≡ int_lt u v
lt_same x y u v f g = by_lt_z x y
    (λ e. let h : u <ℤ v = f e in grind (arith, ints))
    (λ e. by_lt_z u v (λ h. absurd (let k : x <ℤ y = g h in omega (arith, ints))) (λ h. grind (arith, ints)))

pub cmp_same : (x y u v : ℤ) → (x <ℤ y → u <ℤ v) → (u <ℤ v → x <ℤ y) → (y <ℤ x → v <ℤ u) → (v <ℤ u → y <ℤ x) → int_cmp x y ≡ int_cmp u v
cmp_same x y u v f g h k = rw (lt_same x y u v f g, lt_same y x v u h k) refl

module _ (left right common a b c d : ℤ) (b_above : pos 1 ≤ℤ b) (d_above : pos 1 ≤ℤ d) (above : pos 1 ≤ℤ common)
    (first : left *ℤ b ≡ a *ℤ common) (second : right *ℤ d ≡ c *ℤ common) where
  one : left *ℤ (b *ℤ d) ≡ (a *ℤ d) *ℤ common
  one = over_more left b a common d first

  two : right *ℤ (b *ℤ d) ≡ (c *ℤ b) *ℤ common
  two = ap (λ z. right *ℤ z) (*ℤ_comm b d) ∙ over_more right d c common b second

  under : pos 1 ≤ℤ (b *ℤ d)
  under = product_above b d b_above d_above

  pub order_same : int_cmp left right ≡ int_cmp (a *ℤ d) (c *ℤ b)
  order_same = cmp_same left right (a *ℤ d) (c *ℤ b)
      (λ e. lt_cancel (a *ℤ d) (c *ℤ b) common above (rw (← one, ← two) (lt_times left right (b *ℤ d) under e)))
      (λ e. lt_cancel left right (b *ℤ d) under (rw (one, two) (lt_times (a *ℤ d) (c *ℤ b) common above e)))
      (λ e. lt_cancel (c *ℤ b) (a *ℤ d) common above (rw (← one, ← two) (lt_times right left (b *ℤ d) under e)))
      (λ e. lt_cancel right left (b *ℤ d) under (rw (one, two) (lt_times (c *ℤ b) (a *ℤ d) common above e)))

-- the floor of a quotient
pub floor_is : (a b : ℤ) → pos 1 ≤ℤ b → IsFloor (record { numerator = a; denominator = b }) (int_div_euclid a b)
floor_is (pos a) (pos b) above = record { not_above = omega (arith, ints); next_above = omega (arith, ints) }
floor_is (negsuc a) (pos b) above = record {
  not_above = omega (arith, ints);
  next_above = rw (spread (negsuc (a / b)) (pos 1) (pos b)) (omega (arith, ints));
}
floor_is a (negsuc b) above = absurd (omega (arith, ints))

pub floor_of : (r a b : ℤ) → r ≡ int_div_euclid a b → pos 1 ≤ℤ b → IsFloor (record { numerator = a; denominator = b }) r
floor_of r a b is above = rw is (floor_is a b above)

-- one number has one floor, whatever its terms
pub floor_same : (x y : Number) (n : ℤ) → pos 1 ≤ℤ x.denominator → pos 1 ≤ℤ y.denominator → IsSame x y → IsFloor x n → IsFloor y n
floor_same x y n x_above y_above same floor = record {
  not_above = le_cancel (n *ℤ y.denominator) y.numerator x.denominator x_above
      (rw (swap_last n y.denominator x.denominator, ← same) (le_times (n *ℤ x.denominator) x.numerator y.denominator y_above floor.not_above));
  next_above = lt_cancel y.numerator ((n +ℤ pos 1) *ℤ y.denominator) x.denominator x_above
      (rw (swap_last (n +ℤ pos 1) y.denominator x.denominator, ← same) (lt_times x.numerator ((n +ℤ pos 1) *ℤ x.denominator) y.denominator y_above floor.next_above));
}

rounded_top : (a b : ℤ) → (pos 1000 *ℤ a) *ℤ pos 2 +ℤ pos 1 *ℤ (pos 1 *ℤ b) ≡ pos 2000 *ℤ a +ℤ b
rounded_top a b = omega (arith, ints)

rounded_under : (b : ℤ) → (pos 1 *ℤ b) *ℤ pos 2 ≡ pos 2 *ℤ b
rounded_under b = omega (arith, ints)

pub nearest_is : (a b n : ℤ) → IsFloor (record { numerator = pos 2000 *ℤ a +ℤ b; denominator = pos 2 *ℤ b }) n
    → IsNearestThousandth (record { numerator = a; denominator = b }) n
nearest_is a b n floor = rw (rounded_top a b, rounded_under b) floor

pub floor_of_nearest : (a b n : ℤ) → IsNearestThousandth (record { numerator = a; denominator = b }) n
    → IsFloor (record { numerator = pos 2000 *ℤ a +ℤ b; denominator = pos 2 *ℤ b }) n
floor_of_nearest a b n nearest = rw (← rounded_top a b, ← rounded_under b) nearest

-- one number has one nearest thousandth, whatever its terms
twice_more : (a b c d : ℤ) → a *ℤ d ≡ c *ℤ b → (pos 2000 *ℤ a +ℤ b) *ℤ (pos 2 *ℤ d) ≡ (pos 2000 *ℤ c +ℤ d) *ℤ (pos 2 *ℤ b)
twice_more a b c d same =
    let first : (pos 2000 *ℤ a) *ℤ (pos 2 *ℤ d) ≡ (pos 2000 *ℤ c) *ℤ (pos 2 *ℤ b) =
    assoc (pos 2000) a (pos 2 *ℤ d) ∙ ap (λ z. pos 2000 *ℤ z) (over_two a d ∙ ap (λ z. pos 2 *ℤ z) same ∙ sym (over_two c b)) ∙ sym (assoc (pos 2000) c (pos 2 *ℤ b)) in
    let second : b *ℤ (pos 2 *ℤ d) ≡ d *ℤ (pos 2 *ℤ b) = over_two b d ∙ ap (λ z. pos 2 *ℤ z) (*ℤ_comm b d) ∙ sym (over_two d b) in
    spread (pos 2000 *ℤ a) b (pos 2 *ℤ d) ∙ ap (λ z. z +ℤ b *ℤ (pos 2 *ℤ d)) first ∙ ap (λ z. (pos 2000 *ℤ c) *ℤ (pos 2 *ℤ b) +ℤ z) second ∙ sym (spread (pos 2000 *ℤ c) d (pos 2 *ℤ b))
  where
    over_two : (x y : ℤ) → x *ℤ (pos 2 *ℤ y) ≡ pos 2 *ℤ (x *ℤ y)
    over_two x y = sym (assoc x (pos 2) y) ∙ ap (λ z. z *ℤ y) (*ℤ_comm x (pos 2)) ∙ assoc (pos 2) x y

pub nearest_same : (x y : Number) (n : ℤ) → pos 1 ≤ℤ x.denominator → pos 1 ≤ℤ y.denominator → IsSame x y → IsNearestThousandth x n → IsNearestThousandth y n
nearest_same x y n x_above y_above same nearest = nearest_is y.numerator y.denominator n
    (floor_same (record { numerator = pos 2000 *ℤ x.numerator +ℤ x.denominator; denominator = pos 2 *ℤ x.denominator })
    (record { numerator = pos 2000 *ℤ y.numerator +ℤ y.denominator; denominator = pos 2 *ℤ y.denominator }) n
    (omega (arith, ints)) (omega (arith, ints)) (twice_more x.numerator x.denominator y.numerator y.denominator same)
    (floor_of_nearest x.numerator x.denominator n nearest))
