-- The condition of a conditional subtype: the field of its base that it looks at, and the number that this field must have.
use Rattle.std.specs.Prelude.{ℕ, ℤ, pos, cond, List, Option, Some, None, option_map, option_and_then}
use Rattle.name_scope.specs.dsl_tree.declared.compounds.ConditionValue.{ConditionValue}
use Rattle.name_scope.specs.dsl_tree.declared.compounds.HeirCondition.{HeirCondition}
use Rattle.type_heads.specs.Form.{Form}
use Rattle.type_heads.specs.Table.{form, base, number_of}
use Rattle.type_heads.specs.Types.{Types}
use Rattle.type_heads.specs.Members.{heir_condition, field, field_type}

-- a field, the number that it must have, and the conditional subtype whose members are there then
pub record Condition : Type 0 where
  pub field : List ℕ
  pub value : ℤ
  pub subtype : ℕ

-- a number in what the field can hold: a truth value is 1 or 0, a member of its enum that member's number
abbrev pub condition_value : Form → ConditionValue → Option ℤ
condition_value Form.Truth (ConditionValue.Truth place value) = Some (cond value (pos 1) (pos 0))
condition_value (Form.Enum members) (ConditionValue.Name name) = option_map pos (number_of members name.text)
condition_value (Form.Enum members) (ConditionValue.EnumName of member) = option_map pos (number_of members member.text)
condition_value _ _ = None

-- the form of a field's type
abbrev pub field_form : Types → ℕ → List ℕ → Option Form
field_form ts t name = option_map (form ts.table.heads) (option_and_then (field_type ts) (field ts t name))

-- the condition of type t on a field of its base b, if the field holds such values
abbrev pub condition_on : Types → ℕ → ℕ → HeirCondition → Option Condition
condition_on ts t b c =
    option_and_then (λ form. option_map (λ n. record { field = c.field.text; value = n; subtype = t }) (condition_value form c.value))
    (field_form ts b c.field.text)

-- the condition of a type, if it is a conditional subtype
abbrev pub condition : Types → ℕ → Option Condition
condition ts t =
    option_and_then (λ b. option_and_then (condition_on ts t b) (heir_condition ts.bodies t)) (base ts.table.heads t)
