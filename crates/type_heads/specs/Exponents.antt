-- The exponents that brackets give, and the numbers of factors and offsets.
use Rattle.std.specs.Prelude.{ℕ, Bool, List, codes}
use Rattle.units_si.specs.osc_base.Number.{Number}
use Rattle.units_si.specs.osc_base.LowestTerms.{decimal_number}
use Rattle.name_scope.specs.dsl_tree.declared.units.BasePart.{BasePart}
use Rattle.units_si.specs.declared.units.Exponents.{Exponents}
use Rattle.type_heads.specs.Units.{exponent_of, signed}

-- the exponents of all eight, whether or not the brackets have a fault
abbrev pub exponents_in : List BasePart → Exponents
exponents_in parts = record {
  kg = exponent_of parts (codes "kg");
  m = exponent_of parts (codes "m");
  s = exponent_of parts (codes "s");
  a = exponent_of parts (codes "A");
  k = exponent_of parts (codes "K");
  mol = exponent_of parts (codes "mol");
  cd = exponent_of parts (codes "cd");
  rad = exponent_of parts (codes "rad");
}

-- a decimal in lowest terms, with its sign
abbrev pub signed_decimal : Bool → ℕ → ℕ → Number
signed_decimal minus digits places = let n = decimal_number digits places in record n { numerator = signed minus n.numerator }
