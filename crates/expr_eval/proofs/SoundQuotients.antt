-- The typed form of a quotient is sound.
use Rattle.std.proofs.Common.{◌≡◌, ◌∙◌, refl, sym, ap, ap₂, subst, ℕ, zero, suc, ◌*◌, ◌/◌, ◌<◌, ◌≤◌, ◌^◌, max, Bool, true, false, ◌&&◌, not, Option, nat_eq, true≢false, arith}
use Rattle.std.specs.Prelude.{ℤ, pos, negsuc, ◌||◌, int_le, unsigned_abs}
use Rattle.std.specs.Ordering.{int_eq}
use Rattle.std.proofs.lemmas.Bool.Decides.{nat_tests}
use Rattle.std.proofs.lemmas.Int.{ints}
use Rattle.std.proofs.lemmas.Nat.Gcd.{IsGcd-swap, same_from_IsGcd}
use Rattle.osc_base.specs.declared.fault.Place.{Place}
use Rattle.osc_base.specs.Number.{Number}
use Rattle.osc_base.specs.LowestTerms.{gcd, lowest}
use Rattle.osc_base.proofs.Multiples.{lowest_terms}
use Rattle.expr_nodes.specs.Kinds.{ValueKind, is_number}
use Rattle.expr_nodes.specs.Typed.{Typed, kind, place_of}
use Rattle.expr_nodes.specs.Value.{worth}
use Rattle.expr_nodes.specs.Sizes.{Size, size, info_at, constant_size, multiplied, divided, is_wide}
use Rattle.expr_nodes.specs.Parts.{is_scalar, both_numbers}
use Rattle.expr_nodes.specs.Operators.{quotient_rows, quotient_typed, has_quotient, is_constant, constant_value, is_zero, signed_like, reciprocal, reciprocal_exponents, reciprocal_of, product_of, product_exponents}
use Rattle.expr_nodes.specs.Sound.{is_sound, is_lowest}
use Rattle.expr_nodes.proofs.of_osc_base.Divisors.{gcd_above, gcd_is}
use Rattle.expr_eval.specs.Narrow.{is_narrow}
use Rattle.expr_eval.proofs.Sizes.{left_of, right_of, both, own_size, nat_self}
use Rattle.expr_eval.proofs.SoundNodes.{Good, is_asked, asked, only, two_made, sound_narrow}
use Rattle.expr_eval.proofs.SoundLeaves.{share_abs, opposite_abs, constant_good}

-- ---- one over a constant, in lowest terms

signed_abs : (s : ℤ) (b : ℕ) → unsigned_abs (signed_like s (pos b)) ≡ b
signed_abs (pos k) b = refl
signed_abs (negsuc k) b = opposite_abs b

above_zero : (n : Number) → is_zero n ≡ false → 0 < unsigned_abs n.numerator
above_zero n h = by n.numerator h
  where
    by : (x : ℤ) → int_eq x (pos 0) ≡ false → 0 < unsigned_abs x
    by x e = grind (arith, ints)

share_zero : (a g : ℕ) → a ≡ 0 → a / g ≡ 0
share_zero a g e = rw e (omega arith)

pub reciprocal_lowest : (x : ℤ) (d : ℕ) → is_zero (lowest x d) ≡ false → is_lowest (reciprocal (lowest x d)) ≡ true
reciprocal_lowest x d h =
    let g = gcd (unsigned_abs x) d in
    let n = lowest x d in
    let num : unsigned_abs n.numerator ≡ unsigned_abs x / g = share_abs x g in
    let some : 0 < unsigned_abs n.numerator = above_zero n h in
    let top : 0 < unsigned_abs x / g = subst (λ k. 0 < k) num some in
    let above : 0 < unsigned_abs x = nonzero (unsigned_abs x) g top in
    let one : gcd (d / g) (unsigned_abs x / g) ≡ 1 = same_from_IsGcd (d / g) (unsigned_abs x / g) (gcd (d / g) (unsigned_abs x / g)) 1 (gcd_is (d / g) (unsigned_abs x / g))
    (IsGcd-swap (unsigned_abs x / g) (d / g) 1 (lowest_terms (unsigned_abs x) d g (gcd_above (unsigned_abs x) d above) (gcd_is (unsigned_abs x) d))) in
    both _ _ (first (unsigned_abs n.numerator) some)
    (ap (λ k. nat_eq k 1) (ap₂ gcd (signed_abs n.numerator (d / g)) num ∙ one) ∙ nat_self 1)
  where
    first : (n : ℕ) → 0 < n → int_le (pos 1) (pos n) ≡ true
    first n h = grind (arith, ints)

    nonzero : (a g : ℕ) → 0 < a / g → 0 < a
    nonzero zero g h = let none : zero / g ≡ 0 = share_zero zero g refl in absurd (omega arith)
    nonzero (suc a) g h = omega arith

-- ---- sizes

wide_says : (s : Size) → is_wide s ≡ false → (s.scale ≤ 2 ^ 120) × (s.reach ≤ 2 ^ 120)
wide_says s h = (grind (arith, nat_tests), grind (arith, nat_tests))

wide_told : (s : Size) → s.scale ≤ 2 ^ 120 → s.reach ≤ 2 ^ 120 → is_wide s ≡ false
wide_told s p q = grind (arith, nat_tests)

greatest_reach : (r b : ℕ) → r ≤ 2 ^ 120 → r * b ≤ 2 ^ 120 → r * max 1 b ≤ 2 ^ 120
greatest_reach r zero p q = omega arith
greatest_reach r (suc b) p q = let same : max 1 (suc b) ≡ suc b = omega arith in rw same q

pub reciprocal_narrow : (x : Size) (v : Number) (b : ℕ) → v.denominator ≡ pos b → is_wide x ≡ false → is_wide (divided x v) ≡ false → is_wide (multiplied x (constant_size (reciprocal v))) ≡ false
reciprocal_narrow x v b is narrow h =
    let own = wide_says x narrow in
    let both = wide_says (divided x v) h in
    let den : unsigned_abs v.denominator ≡ b = ap unsigned_abs is in
    let num : unsigned_abs (reciprocal v).numerator ≡ b = ap (λ d. unsigned_abs (signed_like v.numerator d)) is ∙ signed_abs v.numerator b in
    wide_told (multiplied x (constant_size (reciprocal v))) both.0
    (subst (λ k. x.reach * max 1 k ≤ 2 ^ 120) (sym num) (greatest_reach x.reach b own.1 (subst (λ k. x.reach * k ≤ 2 ^ 120) den both.1)))

-- ---- what the rows of a quotient say

pub record Divides (fit units constant nil wide : Bool) : Type 0 where
  pub fits : fit ≡ true
  pub apart : units ≡ false
  pub is_constant : constant ≡ true
  pub some : nil ≡ false
  pub narrow : wide ≡ false

pub quotient_says : (l r fit units constant nil wide : Bool)
    → ((l || (r || not fit)) || (units || (not constant || ((constant && nil) || (((constant && not nil) && wide) || false))))) ≡ false → Divides fit units constant nil wide
quotient_says true r fit units constant nil wide h = absurd (true≢false h)
quotient_says false true fit units constant nil wide h = absurd (true≢false h)
quotient_says false false false units constant nil wide h = absurd (true≢false h)
quotient_says false false true true constant nil wide h = absurd (true≢false h)
quotient_says false false true false false nil wide h = absurd (true≢false h)
quotient_says false false true false true true wide h = absurd (true≢false h)
quotient_says false false true false true false true h = absurd (true≢false h)
quotient_says false false true false true false false h = record { fits = refl; apart = refl; is_constant = refl; some = refl; narrow = refl }

pub quotient_good : (p : Place) (a b : Option Typed) → Good a → Good b → Good (quotient_typed p a b)
quotient_good p a b first second t is here =
    let m = two_made (quotient_rows p) (λ x y. product_of x (reciprocal_of y)) a b t is in
    let x = m.left in
    let y = m.right in
    let v = constant_value y in
    let e = quotient_says (not (is_scalar x)) (not (is_scalar y)) (both_numbers x y) (both_numbers x y && not (has_quotient x y)) (is_constant y) (is_zero v) (is_wide (divided (size x) v)) m.quiet in
    let here' : is_asked (product_of x (reciprocal_of y)) ≡ true = ap is_asked m.made ∙ here in
    let narrow : (is_narrow x && is_narrow (reciprocal_of y)) ≡ true = only (is_narrow (product_of x (reciprocal_of y))) here' in
    let left : is_sound x ≡ true = first x m.left_is (asked x (left_of (is_narrow x) (is_narrow (reciprocal_of y)) narrow)) in
    let right : is_sound (reciprocal_of y) ≡ true = constant_good (place_of y) (ValueKind.Number (reciprocal_exponents y)) (reciprocal v) refl
    (reciprocal_lowest (worth (λ p. pos 0) y).numerator (unsigned_abs (worth (λ p. pos 0) y).denominator) e.some) (reciprocal_of y) refl (asked (reciprocal_of y) (right_of (is_narrow x) (is_narrow (reciprocal_of y)) narrow)) in
    let fits : is_wide (multiplied (size x) (size (reciprocal_of y))) ≡ false = reciprocal_narrow (size x) v _ refl (sound_narrow x left) e.narrow in
    subst (λ z. is_sound z ≡ true) m.made
    (both _ _ (both _ _ (left_of (is_number (kind x)) (is_number (kind y)) e.fits) refl) (both _ _ (own_size (info_at (place_of x) (ValueKind.Number (product_exponents x (reciprocal_of y))) (multiplied (size x) (size (reciprocal_of y)))) (multiplied (size x) (size (reciprocal_of y))) refl refl fits) (both _ _ left right)))
