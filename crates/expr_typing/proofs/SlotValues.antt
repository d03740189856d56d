-- The slot value of a literal, by the calls that work it out.
use Rattle.std.proofs.Common.{◌≡◌, ◌∙◌, refl, sym, ap, ap₂, subst, ℕ, zero, suc, ◌/◌, ◌%◌, ◌^◌, ◌≤◌, ◌<◌, Bool, true, false, not, ◌&&◌, cond, Option, Some, None, true≢false, arith}
use Rattle.std.specs.Prelude.{ℤ, pos, negsuc, ◌+ℤ◌, ◌*ℤ◌, ◌≤ℤ◌, ◌<ℤ◌, unsigned_abs, nat_lt, int_le, option_map, option_and_then}
use Rattle.std.specs.Int.{int_div_euclid}
use Rattle.std.specs.Option.{SomeIff, MatchOption}
use Rattle.std.proofs.lemmas.Bool.Decides.{nat_tests}
use Rattle.std.proofs.lemmas.Int.{ints}
use Rattle.std.proofs.lemmas.Nat.Gcd.{dvd_antisymm}
use Rattle.dsl_tree.specs.osc_base.declared.fraction.Fraction.{Fraction}
use Rattle.dsl_tree.specs.osc_base.Fraction.{OverCommon, AddsExactly, MultipliesExactly, RoundsExactly, value}
use Rattle.dsl_tree.specs.osc_base.Number.{Number, IsFloor, IsWithin, IsLeastCommonMultiple}
use Rattle.dsl_tree.specs.osc_base.Comparisons.{is_within}
use Rattle.dsl_tree.specs.osc_base.LowestTerms.{lcm, floor_over}
use Rattle.dsl_tree.proofs.of_osc_base.Integers.{le_cancel, lt_cancel}
use Rattle.dsl_tree.proofs.of_osc_base.Numbers.{floor_is}
use Rattle.dsl_tree.proofs.of_osc_base.Fractions.{widened_num, widened_same, den_above}
use Rattle.expr_nodes.specs.units_si.declared.units.Unit.{Unit}
use Rattle.expr_nodes.specs.units_si.Units.{IsSlotValue, LiteralExactly}
use Rattle.expr_nodes.specs.units_si.Literals.{times, add, nearest_thousandth, slot_value, literal_count}
use Rattle.expr_nodes.proofs.of_osc_base.Divisors.{lcm_least}

-- Tests of the limit

below : (n m : ℕ) → n ≤ m → not (nat_lt m n) ≡ true
below n m h = grind (arith, nat_tests)

not_below : (n m : ℕ) → not (nat_lt m n) ≡ true → n ≤ m
not_below n m h = grind (arith, nat_tests)

within_told : (x : ℤ) → IsWithin x → is_within x ≡ true
within_told x h = below (unsigned_abs x) (2 ^ 120) h

within_says : (x : ℤ) → is_within x ≡ true → IsWithin x
within_says x h = not_below (unsigned_abs x) (2 ^ 120) h

left_of : (a b : Bool) → (a && b) ≡ true → a ≡ true
left_of true b h = refl
left_of false b h = h

right_of : (a b : Bool) → (a && b) ≡ true → b ≡ true
right_of true b h = h
right_of false true h = refl
right_of false false h = h

both : (a b : Bool) → a ≡ true → b ≡ true → (a && b) ≡ true
both true b p q = q
both false b p q = p

-- an answer that is there exactly if a test holds
by_test : {X : Type 0} (r : Option X) (b : Bool) (x : X) → ((y : X) → r ≡ Some y → (b ≡ true) × (y ≡ x)) → (r ≡ None → b ≡ true → ⊥) → r ≡ cond b (Some x) None
by_test None true x some none = absurd (none refl refl)
by_test None false x some none = refl
by_test (Some y) b x some none = let h = some y refl in rw h.0 (ap Some h.1)

-- A product

times_is : (f g : Fraction) (r : Option Fraction) → MultipliesExactly f g r → option_map value r ≡ times (value f) (value g)
times_is f g None h = by_test None (is_within (f.num *ℤ g.num) && is_within (f.den *ℤ g.den)) _ (λ y e. absurd (cc))
    (λ e p. absurd (true≢false (sym (h.exactly.1 (within_says (f.num *ℤ g.num) (left_of _ _ p), within_says (f.den *ℤ g.den) (right_of (is_within (f.num *ℤ g.num)) _ p))))))
times_is f g (Some p) h =
    let fits = h.exactly.0 refl in
    rw (both _ _ (within_told (f.num *ℤ g.num) fits.0) (within_told (f.den *ℤ g.den) fits.1))
    (ap Some (ap₂ (λ n d. record { numerator = n; denominator = d }) h.parts.0 h.parts.1))

-- A sum

one_multiple : (a b x y : ℕ) → IsLeastCommonMultiple a b x → IsLeastCommonMultiple a b y → x ≡ y
one_multiple a b x y p q = dvd_antisymm (p.least y q.first q.second) (q.least x p.first p.second)

cancelled : (x y c : ℤ) → pos 1 ≤ℤ c → x *ℤ c ≡ y *ℤ c → x ≡ y
cancelled x y c above same =
    let up : x ≤ℤ y = le_cancel x y c above (omega (arith, ints, same)) in
    let down : y ≤ℤ x = le_cancel y x c above (omega (arith, ints, same)) in
    omega (arith, ints, up, down)

module _ (f g : Fraction) (over : OverCommon f g) where
  abbrev common : ℕ
  common = lcm (unsigned_abs f.den) (unsigned_abs g.den)

  common_is : over.common ≡ common
  common_is = one_multiple (unsigned_abs f.den) (unsigned_abs g.den) over.common common over.is_common (lcm_least (unsigned_abs f.den) (unsigned_abs g.den) (den_above f))

  left_is : over.left ≡ f.num *ℤ pos (common / unsigned_abs f.den)
  left_is = cancelled over.left (widened_num f over.common) f.den f.positive (over.left_same ∙ sym (widened_same f over.common over.is_common.first))
      ∙ ap (λ n. f.num *ℤ pos (n / unsigned_abs f.den)) common_is

  right_is : over.right ≡ g.num *ℤ pos (common / unsigned_abs g.den)
  right_is = cancelled over.right (widened_num g over.common) g.den g.positive (over.right_same ∙ sym (widened_same g over.common over.is_common.second))
      ∙ ap (λ n. g.num *ℤ pos (n / unsigned_abs g.den)) common_is

-- a sum over a denominator with these numerators
abbrev sum_over : ℕ → ℤ → ℤ → Option Number
sum_over n x y = cond (is_within (pos n) && (is_within x && (is_within y && is_within (x +ℤ y)))) (Some (record { numerator = x +ℤ y; denominator = pos n })) None

sum_is : (f g : Fraction) (r : Option Fraction) (h : AddsExactly f g r) → option_map value r ≡ sum_over h.over.common h.over.left h.over.right
sum_is f g None h = by_test None _ _ (λ y e. absurd (cc))
    (λ e p.
    let x = h.over.left in
    let y = h.over.right in
    let first = right_of (is_within (pos h.over.common)) _ p in
    let second = right_of (is_within x) _ first in
    absurd (true≢false (sym (h.exactly.1 ((within_says (pos h.over.common) (left_of _ _ p), within_says x (left_of _ _ first), within_says y (left_of _ _ second)), within_says (x +ℤ y) (right_of (is_within y) _ second))))))
sum_is f g (Some s) h =
    let fits = h.exactly.0 refl in
    rw (both _ _ (within_told (pos h.over.common) fits.0.0) (both _ _ (within_told h.over.left fits.0.1) (both _ _ (within_told h.over.right fits.0.2) (within_told (h.over.left +ℤ h.over.right) fits.1))))
    (ap Some (ap₂ (λ n d. record { numerator = n; denominator = d }) h.parts.0 h.parts.1))

add_is : (f g : Fraction) (r : Option Fraction) → AddsExactly f g r → option_map value r ≡ add (value f) (value g)
add_is f g r h = sum_is f g r h ∙ ap (λ n. sum_over n h.over.left h.over.right) (common_is f g h.over)
    ∙ ap₂ (sum_over (lcm (unsigned_abs f.den) (unsigned_abs g.den))) (left_is f g h.over) (right_is f g h.over)

-- A rounded number

no_less : (x : Number) (n m : ℤ) → pos 1 ≤ℤ x.denominator → IsFloor x n → IsFloor x m → n ≤ℤ m
no_less x n m above p q =
    let low : (n *ℤ x.denominator) ≤ℤ x.numerator = p.not_above in
    let high : x.numerator <ℤ ((m +ℤ pos 1) *ℤ x.denominator) = q.next_above in
    let less : n <ℤ (m +ℤ pos 1) = lt_cancel n (m +ℤ pos 1) x.denominator above (omega (arith, ints, low, high)) in
    omega (arith, ints, less)

one_floor : (x : Number) (n m : ℤ) → pos 1 ≤ℤ x.denominator → IsFloor x n → IsFloor x m → n ≡ m
one_floor x n m above p q =
    let up = no_less x n m above p q in
    let down = no_less x m n above q p in
    omega (arith, ints, up, down)

floor_by : (a d : ℤ) → pos 1 ≤ℤ d → int_div_euclid a d ≡ floor_over a (unsigned_abs d)
floor_by (pos n) (pos d) above = refl
floor_by (negsuc n) (pos d) above = refl
floor_by a (negsuc d) above = absurd (omega (arith, ints))

nearest_is : (f : Fraction) (r : Option ℤ) → RoundsExactly f r → r ≡ nearest_thousandth (value f)
nearest_is f None h = by_test None _ _ (λ y e. absurd (cc))
    (λ e p.
    let top = pos 2000 *ℤ f.num in
    let rest = right_of (is_within top) _ p in
    absurd (true≢false (sym (h.exactly.1 (within_says top (left_of _ _ p), within_says (top +ℤ f.den) (left_of _ _ rest), within_says (pos 2 *ℤ f.den) (right_of (is_within (top +ℤ f.den)) _ rest))))))
nearest_is f (Some n) h =
    let fits = h.exactly.0 refl in
    let top = pos 2000 *ℤ f.num +ℤ f.den in
    let bottom = pos 2 *ℤ f.den in
    let positive : pos 1 ≤ℤ f.den = f.positive in
    let above : pos 1 ≤ℤ (pos 2 *ℤ f.den) = omega (arith, ints, positive) in
    rw (both _ _ (within_told (pos 2000 *ℤ f.num) fits.0) (both _ _ (within_told top fits.1) (within_told bottom fits.2)))
    (ap Some (one_floor (record { numerator = top; denominator = bottom }) n (int_div_euclid top bottom) above h.parts (floor_is top bottom above) ∙ floor_by top bottom above))

-- The slot value

slot_said : (x : ℤ) → (int_le (negsuc 999999999) x && int_le x (pos 1000000000)) ≡ true → IsSlotValue x
slot_said x h = (grind (arith, ints), grind (arith, ints))

slot_told : (x : ℤ) → negsuc 999999999 ≤ℤ x → x ≤ℤ pos 1000000000 → (int_le (negsuc 999999999) x && int_le x (pos 1000000000)) ≡ true
slot_told x least most = grind (arith, ints)

slot_is : (r : Option ℤ) (x : ℤ) → SomeIff r (IsSlotValue x) x → r ≡ slot_value x
slot_is None x h = by_test None _ x (λ y e. absurd (cc)) (λ e p. h (slot_said x p))
slot_is (Some y) x h = rw (slot_told x h.0.0 h.0.1) (ap Some h.1)

rounded_is : (q : Fraction) (rounded r : Option ℤ) → RoundsExactly q rounded → MatchOption rounded (r ≡ None) (λ count. SomeIff r (IsSlotValue count) count)
    → r ≡ option_and_then slot_value (nearest_thousandth (value q))
rounded_is q None r h is = is ∙ ap (option_and_then slot_value) (nearest_is q None h)
rounded_is q (Some count) r h is = slot_is r count is ∙ ap (option_and_then slot_value) (nearest_is q (Some count) h)

abbrev from_sum : Number → Option ℤ
from_sum moved = option_and_then slot_value (nearest_thousandth moved)

moved_is : (p offset : Fraction) (moved : Option Fraction) (r : Option ℤ) → AddsExactly p offset moved
    → MatchOption moved (r ≡ None) (λ q. (rounded : Option ℤ) × RoundsExactly q rounded × MatchOption rounded (r ≡ None) (λ count. SomeIff r (IsSlotValue count) count))
    → r ≡ option_and_then from_sum (add (value p) (value offset))
moved_is p offset None r h is = is ∙ ap (option_and_then from_sum) (add_is p offset None h)
moved_is p offset (Some q) r h is = rounded_is q is.0 r is.1 is.2 ∙ ap (option_and_then from_sum) (add_is p offset (Some q) h)

scaled_is : (number : Fraction) (unit : Unit) (scaled : Option Fraction) (r : Option ℤ) → MultipliesExactly number unit.factor scaled
    → MatchOption scaled (r ≡ None) (λ p. (moved : Option Fraction) × AddsExactly p unit.offset moved × MatchOption moved (r ≡ None) (λ q.
    (rounded : Option ℤ) × RoundsExactly q rounded × MatchOption rounded (r ≡ None) (λ count. SomeIff r (IsSlotValue count) count)))
    → r ≡ literal_count (value number) (value unit.factor) (value unit.offset)
scaled_is number unit None r h is = is ∙ ap (option_and_then (λ s. option_and_then from_sum (add s (value unit.offset)))) (times_is number unit.factor None h)
scaled_is number unit (Some p) r h is = moved_is p unit.offset is.0 r is.1 is.2 ∙ ap (option_and_then (λ s. option_and_then from_sum (add s (value unit.offset)))) (times_is number unit.factor (Some p) h)

pub literal_is : (number : Fraction) (unit : Unit) (r : Option ℤ) → LiteralExactly number unit r → r ≡ literal_count (value number) (value unit.factor) (value unit.offset)
literal_is number unit r h = scaled_is number unit h.0 r h.1 h.2
