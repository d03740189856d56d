-- Tests of exponents decide what they test.
use Rattle.std.proofs.Common.{◌≡◌, refl, ap, Bool, true, false, ◌&&◌, cond, Option, Some, None, ℤ, pos, ◌≤ℤ◌, arith}
use Rattle.std.specs.Prelude.{negsuc}
use Rattle.std.specs.Option.{SomeIff}
use Rattle.std.proofs.lemmas.Int.{ints}
use Rattle.expr_nodes.specs.units_si.declared.units.Exponents.{Exponents}
use Rattle.expr_nodes.specs.units_si.Units.{IsExponent, AreExponents}
use Rattle.expr_nodes.specs.units_si.ExponentTests.{is_exponent, are_exponents}

-- both of two tests
left_of : (a b : Bool) → (a && b) ≡ true → a ≡ true
left_of true b h = refl
left_of false b h = h

right_of : (a b : Bool) → (a && b) ≡ true → b ≡ true
right_of true b h = h
right_of false true h = refl
right_of false false h = h

both : (a b : Bool) → a ≡ true → b ≡ true → (a && b) ≡ true
both true b p q = q
both false b p q = p

exponent_says : (x : ℤ) → is_exponent x ≡ true → IsExponent x
exponent_says x h = (grind (arith, ints), grind (arith, ints))

exponent_told : (x : ℤ) → negsuc 99 ≤ℤ x → x ≤ℤ pos 100 → is_exponent x ≡ true
exponent_told x least most = grind (arith, ints)

told : (x : ℤ) → IsExponent x → is_exponent x ≡ true
told x h = exponent_told x h.0 h.1

module _ (e : Exponents) where
  pub exponents_told : AreExponents e → are_exponents e ≡ true
  exponents_told h =
      both _ _ (told e.kg h.0) (both _ _ (told e.m h.1) (both _ _ (told e.s h.2) (both _ _ (told e.a h.3)
      (both _ _ (told e.k h.4) (both _ _ (told e.mol h.5) (both _ _ (told e.cd h.6) (told e.rad h.7)))))))

  pub exponents_say : are_exponents e ≡ true → AreExponents e
  exponents_say h =
      let from_m = right_of (is_exponent e.kg) _ h in
      let from_s = right_of (is_exponent e.m) _ from_m in
      let from_a = right_of (is_exponent e.s) _ from_s in
      let from_k = right_of (is_exponent e.a) _ from_a in
      let from_mol = right_of (is_exponent e.k) _ from_k in
      let from_cd = right_of (is_exponent e.mol) _ from_mol in
      let last = right_of (is_exponent e.cd) _ from_cd in (
        exponent_says e.kg (left_of (is_exponent e.kg) _ h),
        exponent_says e.m (left_of (is_exponent e.m) _ from_m),
        exponent_says e.s (left_of (is_exponent e.s) _ from_s),
        exponent_says e.a (left_of (is_exponent e.a) _ from_a),
        exponent_says e.k (left_of (is_exponent e.k) _ from_k),
        exponent_says e.mol (left_of (is_exponent e.mol) _ from_mol),
        exponent_says e.cd (left_of (is_exponent e.cd) _ from_cd),
        exponent_says e.rad last,
      )

pub within_limits : (e : Exponents) (r : Option Exponents) → SomeIff r (AreExponents e) e → r ≡ cond (are_exponents e) (Some e) None
within_limits e None h = by (are_exponents e) refl
  where
    by : (b : Bool) → are_exponents e ≡ b → None ≡ cond b (Some e) None
    by true p = absurd (h (exponents_say e p))
    by false p = refl
within_limits e (Some x) h = rw (exponents_told e h.0) (ap Some h.1)
