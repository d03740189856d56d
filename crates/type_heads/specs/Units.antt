-- The exponents of base units, and the units that are declared.
use Rattle.std.specs.Prelude.{ℕ, ℤ, pos, neg_ℤ, min, ◌&&◌, Bool, true, not, cond, List, [], ◌∷◌, Option, Some, None, bytes_eq, codes, find, flat_map}
use Rattle.std.specs.Option.{option_map_or}
use Rattle.std.specs.List.{list_any}
use Rattle.units_si.specs.osc_base.Number.{Number, whole}
use Rattle.units_si.specs.osc_base.LowestTerms.{decimal_number}
use Rattle.name_scope.specs.dsl_tree.declared.parts.Digits.{Digits}
use Rattle.name_scope.specs.dsl_tree.declared.parts.Signed.{Signed}
use Rattle.name_scope.specs.dsl_tree.declared.units.BasePart.{BasePart}
use Rattle.name_scope.specs.dsl_tree.declared.units.UnitDecl.{UnitDecl}
use Rattle.name_scope.specs.dsl_tree.FileTree.{DeclarationTree, FileTree}
use Rattle.units_si.specs.declared.units.Exponents.{Exponents}
use Rattle.type_heads.specs.Table.{TableUnit}

-- the number that digits, or digits with a sign, stand for
abbrev pub digits_number : Digits → Number
digits_number d = decimal_number d.digits d.places

-- a number with or without a minus
abbrev pub signed : Bool → ℤ → ℤ
signed minus n = cond minus (neg_ℤ n) n

-- the most places behind the point of a number; the grammar has no more
abbrev pub most_places : ℕ
most_places = 18

-- the number that digits with a sign stand for
abbrev pub signed_number : Signed → Number
signed_number s = let n = decimal_number s.number.digits (min s.number.places most_places) in record n { numerator = signed s.minus n.numerator }

-- the eight base units
abbrev pub base_units : List (List ℕ)
base_units = codes "kg" ∷ codes "m" ∷ codes "s" ∷ codes "A" ∷ codes "K" ∷ codes "mol" ∷ codes "cd" ∷ codes "rad" ∷ []

-- one of the eight base units
abbrev pub is_base_unit : List ℕ → Bool
is_base_unit name = list_any (bytes_eq name) base_units

-- the greatest exponent in brackets; the grammar has no greater one
abbrev pub greatest_exponent : ℕ
greatest_exponent = 9

-- the exponent of a base unit, 0 if it isn't mentioned
abbrev pub exponent_of : List BasePart → List ℕ → ℤ
exponent_of parts name = option_map_or (λ (p : BasePart). signed p.exponent.minus (pos (min p.exponent.number.digits greatest_exponent))) (find (λ (p : BasePart). bytes_eq p.name.text name) parts) (pos 0)

-- each base is one of the eight, and none is mentioned twice
abbrev pub are_bases : List (List ℕ) → List BasePart → Bool
are_bases earlier [] = true
are_bases earlier (p ∷ ps) = is_base_unit p.name.text && (not (list_any (bytes_eq p.name.text) earlier) && are_bases (p.name.text ∷ earlier) ps)

-- the exponents of all eight; none if the brackets have a fault
abbrev pub exponents_of : List BasePart → Option Exponents
exponents_of parts = cond (are_bases [] parts) (Some (record {
  kg = exponent_of parts (codes "kg");
  m = exponent_of parts (codes "m");
  s = exponent_of parts (codes "s");
  a = exponent_of parts (codes "A");
  k = exponent_of parts (codes "K");
  mol = exponent_of parts (codes "mol");
  cd = exponent_of parts (codes "cd");
  rad = exponent_of parts (codes "rad");
})) None

-- a unit has the factor 1 and the offset 0 if nothing else is written
abbrev pub unit_of : UnitDecl → TableUnit
unit_of d = record {
  name = d.name.text;
  exponents = exponents_of d.bases;
  factor = option_map_or signed_number d.factor (whole (pos 1));
  offset = option_map_or signed_number d.offset (whole (pos 0));
}

-- the unit that a declaration declares
abbrev pub unit_declared : DeclarationTree → List TableUnit
unit_declared (DeclarationTree.UnitDeclaration d) = unit_of d ∷ []
unit_declared _ = []

-- the units of a program, in load order
abbrev pub units_of : List FileTree → List TableUnit
units_of files = flat_map (λ (f : FileTree). flat_map unit_declared f.decls) files
