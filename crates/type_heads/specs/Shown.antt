-- What the calls on types answer.
use Rattle.std.specs.Prelude.{ℕ, List, [], ◌∷◌, Option, Some, None, slice_index_or}
use Rattle.units_si.specs.osc_base.Number.{Number}
use Rattle.units_si.specs.osc_base.Fraction.{value}
use Rattle.name_scope.specs.dsl_tree.declared.compounds.CompoundKind.{CompoundKind}
use Rattle.units_si.specs.declared.units.Exponents.{Exponents}
use Rattle.units_si.specs.declared.units.Unit.{Unit as BaseUnit}
use Rattle.type_heads.specs.Form.{Form}
use Rattle.type_heads.specs.Table.{TableField, TableUnit}
use Rattle.type_heads.specs.Told.{MemberAt, Told}
use Rattle.type_heads.specs.Conditions.{Condition}
use Rattle.type_heads.specs.declared.kinds.TypeKind.{TypeKind}
use Rattle.type_heads.specs.declared.kinds.EnumHit.{EnumHit}
use Rattle.type_heads.specs.declared.kinds.FieldType.{FieldType}
use Rattle.type_heads.specs.declared.kinds.MemberRef.{MemberRef}

-- what a type of that kind is, but for the members of an enum
abbrev pub kind_form : TypeKind → Form
kind_form TypeKind.Int = Form.Int
kind_form TypeKind.Uint = Form.Uint
kind_form TypeKind.Float = Form.Float
kind_form TypeKind.Bool = Form.Truth
kind_form TypeKind.Chars = Form.Chars
kind_form (TypeKind.Physical exponents) = Form.Physical (Some exponents)
kind_form TypeKind.Enum = Form.Enum []
kind_form TypeKind.Struct = Form.Compound CompoundKind.Struct
kind_form TypeKind.Actor = Form.Compound CompoundKind.Actor
kind_form TypeKind.Action = Form.Compound CompoundKind.Action
kind_form TypeKind.Scenario = Form.Compound CompoundKind.Scenario

-- what a type is, but for the members of an enum
abbrev pub bare : Form → Form
bare (Form.Enum members) = Form.Enum []
bare form = form

-- which of these enums is meant
abbrev pub hit_of : List ℕ → EnumHit
hit_of [] = EnumHit.Absent
hit_of (t ∷ []) = EnumHit.One t
hit_of (t ∷ u ∷ us) = EnumHit.Several

-- which enum is meant, if one more has the member
abbrev pub hit_more : EnumHit → ℕ → EnumHit
hit_more EnumHit.Absent t = EnumHit.One t
hit_more (EnumHit.One u) t = EnumHit.Several
hit_more EnumHit.Several t = EnumHit.Several

-- a field's type, and the number of its elements if it is a list
abbrev pub shown_field : TableField → FieldType
shown_field f = record { of = f.of; length = f.length }

-- where a member stands
abbrev pub shown_member : MemberRef → MemberAt
shown_member m = record { file = m.decl.file; declaration = m.decl.index; index = m.index; under = m.under }

-- the members of a type
abbrev pub members_told : Told → ℕ → List MemberAt
members_told told t = slice_index_or told.members t []

-- the condition of a type
abbrev pub condition_told : Told → ℕ → Option Condition
condition_told told t = slice_index_or told.conditions t None

-- exponents, factor and offset of a unit
pub record UnitParts : Type 0 where
  pub exponents : Option Exponents
  pub factor : Number
  pub offset : Number

abbrev pub unit_parts : TableUnit → UnitParts
unit_parts u = record { exponents = u.exponents; factor = u.factor; offset = u.offset }

abbrev pub shown_unit : BaseUnit → UnitParts
shown_unit u = record { exponents = Some u.exponents; factor = value u.factor; offset = value u.offset }
