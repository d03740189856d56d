-- What a type is, by its declaration and the extensions of an enum.
use Rattle.std.specs.Prelude.{ℕ, List, Option}
use Rattle.name_scope.specs.dsl_tree.declared.compounds.CompoundKind.{CompoundKind}
use Rattle.units_si.specs.declared.units.Exponents.{Exponents}

-- a member of an enum, and its number
pub record EnumMember : Type 0 where
  pub name : List ℕ
  pub number : ℕ

-- The basic types `int`, `uint`, `float`, `bool` and `string`; a physical type with its exponents; an enum with its members in order; and
-- a type with members. A physical type has no exponents if its brackets have a fault.
pub data Form : Type 0 where
  Int : Form
  Uint : Form
  Float : Form
  Truth : Form
  Chars : Form
  Physical : (exponents : Option Exponents) → Form
  Enum : (members : List EnumMember) → Form
  Compound : (kind : CompoundKind) → Form

-- the greatest magnitude of what a field holds, and the greatest number of a member of an enum
abbrev pub greatest_value : ℕ
greatest_value = 1000000000
