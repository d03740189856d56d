-- Units of the SI: sums and differences of exponents, and the slot value of a physical literal.
use Rattle.std.specs.Prelude.{◌≡◌, ℤ, pos, negsuc, ◌≤ℤ◌, Option, None}
use Rattle.std.specs.Option.{MatchOption, SomeIff}
use Rattle.osc_base.specs.declared.fraction.Fraction.{Fraction}
use Rattle.osc_base.specs.Fraction.{AddsExactly, MultipliesExactly, RoundsExactly, value}
use Rattle.osc_base.specs.Number.{Number, plus, product}
use Rattle.units_si.specs.declared.units.Exponents.{Exponents}
use Rattle.units_si.specs.declared.units.Unit.{Unit}

-- an operation on each exponent
abbrev pub each : (ℤ → ℤ → ℤ) → Exponents → Exponents → Exponents
each f x y = record {
  kg = f x.kg y.kg;
  m = f x.m y.m;
  s = f x.s y.s;
  a = f x.a y.a;
  k = f x.k y.k;
  mol = f x.mol y.mol;
  cd = f x.cd y.cd;
  rad = f x.rad y.rad;
}

-- an exponent is from -100 to 100
abbrev pub IsExponent : ℤ → Type 0
IsExponent x = (negsuc 99 ≤ℤ x) × (x ≤ℤ pos 100)

abbrev pub AreExponents : Exponents → Type 0
AreExponents x = IsExponent x.kg × IsExponent x.m × IsExponent x.s × IsExponent x.a × IsExponent x.k × IsExponent x.mol × IsExponent x.cd × IsExponent x.rad

-- the value of a literal in base units
abbrev pub literal_value : Fraction → Unit → Number
literal_value number unit = plus (product (value number) (value unit.factor)) (value unit.offset)

-- a slot value is from -1000000000 to 1000000000
abbrev pub IsSlotValue : ℤ → Type 0
IsSlotValue x = (negsuc 999999999 ≤ℤ x) × (x ≤ℤ pos 1000000000)

-- a literal is the number times the factor, plus the offset, to the nearest thousandth; there is none exactly when
-- one of these calls has no result, or when the last leaves the slot's range
abbrev pub LiteralExactly : Fraction → Unit → Option ℤ → Type 0
LiteralExactly number unit result =
    (scaled : Option Fraction) × MultipliesExactly number unit.factor scaled × MatchOption scaled (result ≡ None) (λ p.
    (moved : Option Fraction) × AddsExactly p unit.offset moved × MatchOption moved (result ≡ None) (λ q.
    (rounded : Option ℤ) × RoundsExactly q rounded × MatchOption rounded (result ≡ None) (λ count. SomeIff result (IsSlotValue count) count)))
