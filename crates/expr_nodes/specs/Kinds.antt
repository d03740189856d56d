-- The kinds of expressions.
use Rattle.std.specs.Prelude.{ℕ, pos, Bool, true, false, Option, Some, None, nat_eq, option_map}
use Rattle.type_model.specs.units_si.declared.units.Exponents.{Exponents}
use Rattle.type_model.specs.type_heads.Form.{Form}
use Rattle.type_model.specs.units_si.ExponentTests.{same_exponents}

-- what a phase with a label makes: nothing, the object of an action or scenario, or what its invocation doesn't tell
pub data Made : Type 0 where
  Nothing : Made
  Unknown : Made
  Makes : (of : ℕ) → Made

-- a truth value, a number with the exponents of its unit, a member of an enum, a text, a whole object, or a whole phase
pub data ValueKind : Type 0 where
  Truth : ValueKind
  Number : (exponents : Exponents) → ValueKind
  Member : (of : ℕ) → ValueKind
  Chars : ValueKind
  Object : (of : ℕ) → ValueKind
  Phase : (made : Made) → ValueKind

-- the exponents of a number without a unit
abbrev pub no_exponents : Exponents
no_exponents = record { kg = pos 0; m = pos 0; s = pos 0; a = pos 0; k = pos 0; mol = pos 0; cd = pos 0; rad = pos 0 }

-- the kind of a number without a unit
abbrev pub plain : ValueKind
plain = ValueKind.Number no_exponents

-- the kind of a duration
abbrev pub seconds : ValueKind
seconds = ValueKind.Number (record no_exponents { s = pos 1 })

-- the kind of what a field of that type holds; none if the bases of a physical type are at fault
abbrev pub kind_of : ℕ → Form → Option ValueKind
kind_of t Form.Int = Some plain
kind_of t Form.Uint = Some plain
kind_of t Form.Float = Some plain
kind_of t Form.Truth = Some ValueKind.Truth
kind_of t Form.Chars = Some ValueKind.Chars
kind_of t (Form.Physical exponents) = option_map ValueKind.Number exponents
kind_of t (Form.Enum members) = Some (ValueKind.Member t)
kind_of t (Form.Compound kind) = Some (ValueKind.Object t)

-- the type of a whole object
abbrev pub object_type : ValueKind → Option ℕ
object_type (ValueKind.Object of) = Some of
object_type _ = None

-- a number, of any unit
abbrev pub is_number : ValueKind → Bool
is_number (ValueKind.Number exponents) = true
is_number _ = false

-- a truth value
abbrev pub is_truth : ValueKind → Bool
is_truth ValueKind.Truth = true
is_truth _ = false

-- two numbers of one unit, but for its factor
abbrev pub same_units : ValueKind → ValueKind → Bool
same_units (ValueKind.Number x) (ValueKind.Number y) = same_exponents x y
same_units _ _ = false

-- two kinds that `==` compares: both truth values, both numbers, both members of one enum, or both texts
abbrev pub are_alike : ValueKind → ValueKind → Bool
are_alike ValueKind.Truth ValueKind.Truth = true
are_alike (ValueKind.Number x) (ValueKind.Number y) = true
are_alike (ValueKind.Member e) (ValueKind.Member f) = nat_eq e f
are_alike ValueKind.Chars ValueKind.Chars = true
are_alike _ _ = false
