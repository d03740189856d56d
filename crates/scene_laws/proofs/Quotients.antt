-- Scales and reaches are above 0, and a quotient without a fault is sound.
use Rattle.std.proofs.Common.{◌≡◌, ℕ, zero, suc, ◌+◌, ◌*◌, ◌/◌, ◌≤◌, ◌<◌, max, refl, sym, ap, ◌∙◌, subst, Bool, true, false, ◌&&◌, not, Some, arith, true≢false}
use Rattle.std.specs.Prelude.{ℤ, pos, negsuc, ◌≤ℤ◌, nat_eq, nat_lt, int_le, unsigned_abs}
use Rattle.std.specs.Int.{IsGcd}
use Rattle.std.specs.Ordering.{int_eq}
use Rattle.std.proofs.lemmas.Int.{ints}
use Rattle.field_flatten.specs.osc_base.declared.fault.Place.{Place}
use Rattle.field_flatten.specs.osc_base.declared.path.Path.{Path}
use Rattle.field_flatten.specs.osc_base.Number.{Number}
use Rattle.field_flatten.specs.osc_base.Comparisons.{greatest_part}
use Rattle.field_flatten.specs.osc_base.LowestTerms.{gcd, lcm}
use Rattle.field_flatten.proofs.of_osc_base.Integers.{product_above}
use Rattle.expansion_laws.specs.expr_nodes.Kinds.{ValueKind, is_number, is_truth, same_units}
use Rattle.expansion_laws.specs.expr_nodes.Typed.{Typed, Info, Constant, Read, Whole, Listed, Span, Minus, Not, Sum, Times, And, Or, Implies, Relation, Within, kind, scale, reach, place_of}
use Rattle.expansion_laws.specs.expr_nodes.Value.{worth}
use Rattle.expansion_laws.specs.expr_nodes.Sizes.{Size, size, info_at, constant_size, field_size, duration_size, unit_size, widened, joined, multiplied, divided, is_wide}
use Rattle.expansion_laws.specs.expr_nodes.Parts.{any_holds, is_scalar}
use Rattle.expansion_laws.specs.expr_nodes.Operators.{constant_at, quotient_rows, product_of, constant_value, is_constant, is_zero, can_divide, signed_like, reciprocal, reciprocal_exponents, reciprocal_of}
use Rattle.expansion_laws.specs.expr_nodes.Sound.{has_size, is_lowest, is_constant_of, is_per, is_truth_info, is_sound, are_sound}
use Rattle.field_flatten.proofs.Tests.{left_of, right_of, both, two_ways, number_is}
use Rattle.field_flatten.proofs.Multiples.{common, share_of, product_positive}
use Rattle.field_flatten.proofs.of_osc_base.Divisors.{gcd_is}
use Rattle.field_flatten.proofs.ShapeLaw.{scale_is, per_law}
use Rattle.field_flatten.proofs.ShapeReach.{reach_is}
use Rattle.scene_laws.proofs.FaultRows.{no_left, no_right, holds_not, not_so}
use Rattle.scene_laws.proofs.LowestTerms.{below, narrow_size, gcd_one, lowest_is}
use Rattle.scene_laws.proofs.IsSound.{IsGood, sized, two_numbers, clash, product_made}

-- ---- above 0

pub record IsAbove (s : Size) : Type 0 where
  pub scale : 0 < s.scale
  pub reach : 0 < s.reach

above_info : (i : Info) (s : Size) → has_size i s ≡ true → IsAbove s → IsAbove (record { scale = i.scale; reach = i.reach })
above_info i s h a = record { scale = subst (λ n. 0 < n) (sym (scale_is i s h)) a.scale; reach = subst (λ n. 0 < n) (sym (reach_is i s h)) a.reach }

unit_above : IsAbove unit_size
unit_above = record { scale = omega arith; reach = omega arith }

above_one : (d : ℤ) → int_le (pos 1) d ≡ true → 0 < unsigned_abs d
above_one d h = grind (arith, ints)

max_above : (n : ℕ) → 0 < max 1 n
max_above n = grind arith

sum_above : (a b : ℕ) → 0 < a → 0 < a + b
sum_above a b p = omega (arith, p)

joined_above : (a b : Size) → IsAbove a → IsAbove b → IsAbove (joined a b)
joined_above a b p q =
    let c = common a.scale b.scale p.scale q.scale in
    record { scale = c.above; reach = sum_above (widened (lcm a.scale b.scale) a).reach (widened (lcm a.scale b.scale) b).reach (first c.left c.left_is c.above) }
  where
    factor : (x y n : ℕ) → n ≡ x * y → 0 < n → 0 < y
    factor x zero n is h = absurd (let none : x * 0 ≡ 0 = omega arith in omega arith)
    factor x (suc y) n is h = omega arith

    first : (k : ℕ) → lcm a.scale b.scale ≡ a.scale * k → 0 < lcm a.scale b.scale → 0 < a.reach * (lcm a.scale b.scale / a.scale)
    first k is h =
        let share : lcm a.scale b.scale / a.scale ≡ k = ap (λ n. n / a.scale) is ∙ share_of a.scale k p.scale in
        product_positive a.reach (lcm a.scale b.scale / a.scale) p.reach (subst (λ n. 0 < n) (sym share) (factor a.scale k (lcm a.scale b.scale) is h))

pub above_of : (t : Typed) → is_sound t ≡ true → IsAbove (size t)
above_of (Constant i n) h =
    let l : is_lowest n ≡ true = left_of (is_lowest n) _ (left_of (is_constant_of i.kind n) (has_size i (constant_size n)) h) in
    above_info i (constant_size n) (right_of (is_constant_of i.kind n) _ h)
    (record { scale = above_one n.denominator (left_of (int_le (pos 1) n.denominator) _ l); reach = max_above (unsigned_abs n.numerator) })
above_of (Read i path per) h =
    let per_is = per_law i.kind per (left_of (is_per i.kind per) _ h) in
    let sizes = right_of (is_per i.kind per) _ h in
    two_ways (has_size i (field_size per)) (λ e. above_info i (field_size per) e (record { scale = per_is.above; reach = omega arith }))
    (λ e. let rest : nat_eq per 1000 && has_size i duration_size ≡ true = rw e at sizes in
    above_info i duration_size (right_of (nat_eq per 1000) (has_size i duration_size) rest) (record { scale = omega arith; reach = omega arith }))
above_of (Whole i path) h = above_info i unit_size h unit_above
above_of (Listed i is_field items) h = above_info i unit_size (left_of (has_size i unit_size) (are_sound items) h) unit_above
above_of (Span i low high) h = above_info i unit_size (left_of (has_size i unit_size) (is_sound low && is_sound high) (right_of (is_scalar low && is_scalar high) _ h)) unit_above
above_of (Minus i part) h =
    let rest = right_of (same_units i.kind (kind part)) _ h in
    above_info i (size part) (left_of (has_size i (size part)) (is_sound part) rest) (above_of part (right_of (has_size i (size part)) (is_sound part) rest))
above_of (Not i part) h = above_info i unit_size (right_of (is_truth i.kind) (has_size i unit_size) (left_of (is_truth_info i) _ h)) unit_above
above_of (Sum i left right) h =
    let rest = right_of (same_units i.kind (kind left) && same_units i.kind (kind right)) _ h in
    let parts = right_of (has_size i (joined (size left) (size right))) (is_sound left && is_sound right) rest in
    above_info i (joined (size left) (size right)) (left_of (has_size i (joined (size left) (size right))) (is_sound left && is_sound right) rest)
    (joined_above (size left) (size right) (above_of left (left_of (is_sound left) (is_sound right) parts)) (above_of right (right_of (is_sound left) (is_sound right) parts)))
above_of (Times i left right) h =
    let rest = right_of (is_number (kind left) && is_number (kind right)) _ h in
    let parts = right_of (has_size i (multiplied (size left) (size right))) (is_sound left && is_sound right) rest in
    let l = above_of left (left_of (is_sound left) (is_sound right) parts) in
    let r = above_of right (right_of (is_sound left) (is_sound right) parts) in
    above_info i (multiplied (size left) (size right)) (left_of (has_size i (multiplied (size left) (size right))) (is_sound left && is_sound right) rest)
    (record { scale = product_positive (scale left) (scale right) l.scale r.scale; reach = product_positive (reach left) (reach right) l.reach r.reach })
above_of (And i left right) h = above_info i unit_size (right_of (is_truth i.kind) (has_size i unit_size) (left_of (is_truth_info i) _ h)) unit_above
above_of (Or i left right) h = above_info i unit_size (right_of (is_truth i.kind) (has_size i unit_size) (left_of (is_truth_info i) _ h)) unit_above
above_of (Implies i left right) h = above_info i unit_size (right_of (is_truth i.kind) (has_size i unit_size) (left_of (is_truth_info i) _ h)) unit_above
above_of (Relation i sign left right) h = above_info i unit_size (right_of (is_truth i.kind) (has_size i unit_size) (left_of (is_truth_info i) _ h)) unit_above
above_of (Within i left right) h = above_info i unit_size (right_of (is_truth i.kind) (has_size i unit_size) (left_of (is_truth_info i) _ h)) unit_above

-- ---- denominators

from_test : (d : ℤ) → int_le (pos 1) d ≡ true → pos 1 ≤ℤ d
from_test d h = grind (arith, ints)

pub denominator_above : (held : Path → ℤ) (t : Typed) → is_sound t ≡ true → pos 1 ≤ℤ (worth held t).denominator
denominator_above held (Constant i n) h =
    let l : is_lowest n ≡ true = left_of (is_lowest n) _ (left_of (is_constant_of i.kind n) (has_size i (constant_size n)) h) in
    from_test n.denominator (left_of (int_le (pos 1) n.denominator) _ l)
denominator_above held (Read i path per) h = let p = (per_law i.kind per (left_of (is_per i.kind per) _ h)).above in by per p
  where
    by : (n : ℕ) → 0 < n → pos 1 ≤ℤ pos n
    by n p = omega (arith, ints, p)
denominator_above held (Whole i path) h = omega (arith, ints)
denominator_above held (Listed i is_field items) h = omega (arith, ints)
denominator_above held (Span i low high) h = omega (arith, ints)
denominator_above held (Minus i part) h =
    denominator_above held part (right_of (has_size i (size part)) (is_sound part) (right_of (same_units i.kind (kind part)) _ h))
denominator_above held (Not i part) h = omega (arith, ints)
denominator_above held (Sum i left right) h =
    let parts = right_of (has_size i (joined (size left) (size right))) (is_sound left && is_sound right) (right_of (same_units i.kind (kind left) && same_units i.kind (kind right)) _ h) in
    product_above (worth held left).denominator (worth held right).denominator (denominator_above held left (left_of (is_sound left) (is_sound right) parts)) (denominator_above held right (right_of (is_sound left) (is_sound right) parts))
denominator_above held (Times i left right) h =
    let parts = right_of (has_size i (multiplied (size left) (size right))) (is_sound left && is_sound right) (right_of (is_number (kind left) && is_number (kind right)) _ h) in
    product_above (worth held left).denominator (worth held right).denominator (denominator_above held left (left_of (is_sound left) (is_sound right) parts)) (denominator_above held right (right_of (is_sound left) (is_sound right) parts))
denominator_above held (And i left right) h = omega (arith, ints)
denominator_above held (Or i left right) h = omega (arith, ints)
denominator_above held (Implies i left right) h = omega (arith, ints)
denominator_above held (Relation i sign left right) h = omega (arith, ints)
denominator_above held (Within i left right) h = omega (arith, ints)

-- ---- one over a constant

swapped : (a b : ℕ) → IsGcd a b 1 → IsGcd b a 1
swapped a b is = (is.1, is.0, λ d p q. is.2 d q p)

like_abs : (n d : ℤ) → unsigned_abs (signed_like n d) ≡ unsigned_abs d
like_abs (pos k) d = refl
like_abs (negsuc k) d = grind (arith, ints)

nonzero_abs : (n : ℤ) → int_eq n (pos 0) ≡ false → 0 < unsigned_abs n
nonzero_abs n h = grind (arith, ints)

abs_test : (n : ℕ) → 0 < n → int_le (pos 1) (pos n) ≡ true
abs_test n h = grind (arith, ints)

max_self : (n : ℕ) → 0 < n → max 1 n ≡ n
max_self n h = grind arith

right_factor : (a b most : ℕ) → 0 < a → a * b ≤ most → b ≤ most
right_factor zero b most p h = elim p [ ]
right_factor (suc a) b most p h = grind arith

module _ (x y : Typed) (c : Number) (lowest_c : is_lowest c ≡ true) (nonzero : is_zero c ≡ false) where
  top : 0 < unsigned_abs c.numerator
  top = nonzero_abs c.numerator nonzero

  bottom : 0 < unsigned_abs c.denominator
  bottom = above_one c.denominator (left_of (int_le (pos 1) c.denominator) _ lowest_c)

  reciprocal_lowest : is_lowest (reciprocal c) ≡ true
  reciprocal_lowest =
      let one = number_is (gcd (unsigned_abs c.numerator) (unsigned_abs c.denominator)) 1 (right_of (int_le (pos 1) c.denominator) _ lowest_c) in
      let is : IsGcd (unsigned_abs c.numerator) (unsigned_abs c.denominator) 1 = subst (IsGcd (unsigned_abs c.numerator) (unsigned_abs c.denominator)) one (gcd_is (unsigned_abs c.numerator) (unsigned_abs c.denominator)) in
      let back : gcd (unsigned_abs c.denominator) (unsigned_abs c.numerator) ≡ 1 = gcd_one (unsigned_abs c.denominator) (unsigned_abs c.numerator) (swapped (unsigned_abs c.numerator) (unsigned_abs c.denominator) is) in
      both (int_le (pos 1) (pos (unsigned_abs c.numerator))) (nat_eq (gcd (unsigned_abs (signed_like c.numerator c.denominator)) (unsigned_abs c.numerator)) 1)
      (abs_test (unsigned_abs c.numerator) top)
      (subst (λ n. nat_eq (gcd n (unsigned_abs c.numerator)) 1 ≡ true) (sym (like_abs c.numerator c.denominator)) (subst (λ n. nat_eq n 1 ≡ true) (sym back) refl))

  reciprocal_size : constant_size (reciprocal c) ≡ record { scale = unsigned_abs c.numerator; reach = unsigned_abs c.denominator }
  reciprocal_size = ap (λ n. record { scale = unsigned_abs c.numerator; reach = n }) (ap (max 1) (like_abs c.numerator c.denominator) ∙ max_self (unsigned_abs c.denominator) bottom)

  module _ (above : IsAbove (size x)) (narrow : is_wide (divided (size x) c) ≡ false) where
    reciprocal_narrow : is_wide (constant_size (reciprocal c)) ≡ false
    reciprocal_narrow =
        let s = below greatest_part (scale x * unsigned_abs c.numerator) (no_left (nat_lt greatest_part (scale x * unsigned_abs c.numerator)) _ narrow) in
        let r = below greatest_part (reach x * unsigned_abs c.denominator) (no_right (nat_lt greatest_part (scale x * unsigned_abs c.numerator)) _ narrow) in
        subst (λ z. is_wide z ≡ false) (sym reciprocal_size)
        (narrow_size (record { scale = unsigned_abs c.numerator; reach = unsigned_abs c.denominator })
        (right_factor (scale x) (unsigned_abs c.numerator) greatest_part above.scale s) (right_factor (reach x) (unsigned_abs c.denominator) greatest_part above.reach r))

    reciprocal_product : (p : Place) (k : ValueKind) → is_wide (multiplied (size x) (size (constant_at p k (reciprocal c)))) ≡ false
    reciprocal_product p k = subst (λ z. is_wide (multiplied (size x) z) ≡ false) (sym reciprocal_size) narrow

    reciprocal_good : (p : Place) (k : ValueKind) → is_truth k ≡ false → IsGood (constant_at p k (reciprocal c))
    reciprocal_good p k other = record {
      sound = both (is_constant_of k (reciprocal c)) (has_size (info_at p k (constant_size (reciprocal c))) (constant_size (reciprocal c))) (both (is_lowest (reciprocal c)) _ reciprocal_lowest (rw other refl)) (sized p k (constant_size (reciprocal c)) reciprocal_narrow);
      stands = refl;
    }

above_abs : (d : ℤ) → pos 1 ≤ℤ d → 0 < unsigned_abs d
above_abs d h = grind (arith, ints)

pub quotient_good : (p : Place) (x y : Typed) → IsGood x → IsGood y → any_holds (quotient_rows p (Some x) (Some y)) ≡ false → IsGood (product_of x (reciprocal_of y))
quotient_good p x y g h n =
    let t = two_numbers x y false (no_left (clash x y) _ n) refl in
    let third = no_right _ _ (no_right (clash x y) _ n) in
    let constant = holds_not (is_constant y) (no_left (not (is_constant y)) _ third) in
    let fourth = no_right (not (is_constant y)) _ third in
    let nonzero = one (is_constant y) (is_zero (constant_value y)) constant (no_left (is_constant y && is_zero (constant_value y)) _ fourth) in
    let wide = no_left (can_divide y && is_wide (divided (size x) (constant_value y))) false (no_right (is_constant y && is_zero (constant_value y)) _ fourth) in
    let narrow = one (can_divide y) (is_wide (divided (size x) (constant_value y))) (both (is_constant y) (not (is_zero (constant_value y))) constant (not_so (is_zero (constant_value y)) nonzero)) wide in
    let w = worth (λ p. pos 0) y in
    let lowest_c : is_lowest (constant_value y) ≡ true = lowest_is w.numerator (unsigned_abs w.denominator) (above_abs w.denominator (denominator_above (λ p. pos 0) y h.sound)) in
    let r = reciprocal_good x y (constant_value y) lowest_c nonzero (above_of x g.sound) narrow (place_of y) (ValueKind.Number (reciprocal_exponents y)) refl in
    product_made x (reciprocal_of y) (record { one = t.one; other = refl; number = t.number; number_too = refl })
    (reciprocal_product x y (constant_value y) lowest_c nonzero (above_of x g.sound) narrow (place_of y) (ValueKind.Number (reciprocal_exponents y))) g r
  where
    one : (a b : Bool) → a ≡ true → a && b ≡ false → b ≡ false
    one true b e f = f
    one false b e f = absurd (true≢false (sym e))
