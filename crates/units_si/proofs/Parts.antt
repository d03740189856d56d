-- Parts of an answer that are within bounds.
use Rattle.std.proofs.Common.{◌≡◌, Option, Some, None, sym, subst, arith, to_z, of_z}
use Rattle.std.specs.Int.{w8}
use Rattle.std.specs.Prelude.{ℤ, ◌*ℤ◌, IfSome}
use Rattle.std.specs.Option.{SomeIff}
use Rattle.std.proofs.lemmas.Int.{ints, fits_signed_from_abs, to_z-of_z}
use Rattle.osc_base.specs.declared.fraction.Fraction.{Fraction}
use Rattle.osc_base.specs.Fraction.{value}
use Rattle.osc_base.specs.Number.{IsNearestThousandth, IsSame, plus}
use Rattle.osc_base.proofs.Integers.{product_above}
use Rattle.osc_base.proofs.Numbers.{nearest_same}
use Rattle.units_si.specs.declared.units.Unit.{Unit}
use Rattle.units_si.specs.Units.{IsExponent, literal_value}

pub stored : (r z : ℤ) → IsExponent z × (r ≡ z) → to_z w8 (of_z w8 r) ≡ z
stored r z is = rw is.1 (to_z-of_z w8 z (fits_signed_from_abs w8 z (omega (arith, ints, is.0.0, is.0.1))))

pub some_then : (r : Option ℤ) (P : Type 0) (v : ℤ) (Q : ℤ → Type 0) → SomeIff r P v → Q v → IfSome r Q
some_then None P v Q is q = tt
some_then (Some x) P v Q is q = subst Q (sym is.1) q

-- the number times the factor, plus the offset, rounds as the literal's value
pub rounds : (number : Fraction) (unit : Unit) (scaled moved : Fraction) (count : ℤ)
    → (scaled.num ≡ number.num *ℤ unit.factor.num) × (scaled.den ≡ number.den *ℤ unit.factor.den)
    → IsSame (value moved) (plus (value scaled) (value unit.offset)) → IsNearestThousandth (value moved) count
    → IsNearestThousandth (literal_value number unit) count
rounds number unit scaled moved count parts same nearest =
    nearest_same (value moved) (literal_value number unit) count moved.positive
    (product_above (number.den *ℤ unit.factor.den) unit.offset.den (product_above number.den unit.factor.den number.positive unit.factor.positive) unit.offset.positive)
    (rw (← parts.0, ← parts.1) same) nearest
