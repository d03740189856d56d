-- The conditions of the conditional subtypes of a type, by what is told of types.
use Rattle.std.specs.Prelude.{◌≡◌, ℕ, false, cond, List, [], Option, None, map, nat_eq, filter_map, option_map, slice_index_or}
use Rattle.std.specs.Option.{option_map_or}
use Rattle.type_model.specs.type_heads.Table.{all_types, base}
use Rattle.type_model.specs.type_heads.Conditions.{Condition}
use Rattle.type_model.specs.type_heads.Told.{Told, told}
use Rattle.type_model.specs.type_heads.Shown.{condition_told}
use Rattle.cond_inherit.specs.declared.condition.Condition.{Condition as OwnCondition}
use Rattle.cond_inherit.specs.declared.subtypes.Subtypes.{Subtypes}

-- the condition of a type
abbrev pub condition_at : Told → ℕ → Option Condition
condition_at told t = option_map (λ (c : Condition). record { field = c.field; value = c.value; subtype = t }) (condition_told told t)

-- the condition of type t, if it inherits from type b
abbrev pub condition_under : Told → ℕ → ℕ → Option Condition
condition_under told b t = cond (option_map_or (nat_eq b) (base told.table.heads t) false) (condition_at told t) None

-- the conditions of the conditional subtypes of type b, in load order
abbrev pub conditions_on : Told → ℕ → List Condition
conditions_on told b = filter_map (condition_under told b) (all_types told.table.heads)

-- the lists are those of each type, and a type without a list has none
abbrev pub AreConditions : Told → List (List Condition) → Type 0
AreConditions told lists = (b : ℕ) → slice_index_or lists b [] ≡ conditions_on told b

-- a condition of the program
abbrev pub seen_condition : OwnCondition → Condition
seen_condition c = record { field = c.field; value = c.value; subtype = c.subtype }

-- the conditions on each type
abbrev pub seen_rows : Subtypes → List (List Condition)
seen_rows s = map (map seen_condition) s.rows.items
