-- How many rules and copied tokens the constraints of a text have, whatever object has the text.
use Rattle.std.specs.Prelude.{ℕ, ◌+◌, ◌*◌, Bool, true, List, ◌∷◌, cond, is_some, length, map}
use Rattle.std.specs.Option.{option_map_or}
use Rattle.dsl_tree.specs.declared.compounds.HeirCondition.{HeirCondition}
use Rattle.dsl_tree.specs.ExprTree.{ExprTree, items_of}
use Rattle.dsl_tree.specs.PhaseTree.{RuleTree}
use Rattle.dsl_tree.specs.FileTree.{FieldTree, MemberTree}
use Rattle.program_texts.specs.type_heads.Table.{bases}
use Rattle.program_texts.specs.type_heads.Types.{Types}
use Rattle.program_texts.specs.type_heads.Members.{declared_type, field, heir_condition}
use Rattle.program_texts.specs.composition.Tokens.{tokens, value_tokens}
use Rattle.work_counts.specs.Amounts.{Amount, no_amount, plus, sum_of}

-- of a rule; a `remove_default` has no rule
abbrev pub rule_amount : RuleTree → Amount
rule_amount (RuleTree.Keep place kind e) = record { rules = 1; tokens = tokens e }
rule_amount (RuleTree.Remove place path) = record { rules = 0; tokens = tokens path }

-- of a value
abbrev pub value_amount : ExprTree → Amount
value_amount e = record { rules = 1; tokens = tokens e }

-- of an initial value, or of each element of a list
abbrev pub initial_amount : Bool → ExprTree → Amount
initial_amount true (ExprTree.Listed place items) = sum_of value_amount (items_of items)
initial_amount is_list value = value_amount value

-- of a condition of a type of that number
abbrev pub heir_amount : Types → ℕ → HeirCondition → Amount
heir_amount ts t c = cond (is_some (field ts t c.field.text)) (record { rules = 1; tokens = 2 + value_tokens c.value }) no_amount

-- of the condition of one of the types that it inherits from, or of itself
abbrev pub base_amount : Types → ℕ → ℕ → Amount
base_amount ts t b = option_map_or (heir_amount ts t) (heir_condition ts.bodies b) no_amount

-- of the conditions that its objects meet
abbrev pub type_amount : Types → ℕ → Amount
type_amount ts t = sum_of (base_amount ts t) (t ∷ bases ts.table.heads t)

-- of one name of a field
abbrev pub field_amount : Types → FieldTree → Amount
field_amount ts f =
    plus (option_map_or (type_amount ts) (declared_type ts f) no_amount)
    (plus (sum_of rule_amount f.rules) (option_map_or (initial_amount (is_some f.list)) f.initial no_amount))

-- taken a number of times
abbrev pub times_amount : ℕ → Amount → Amount
times_amount n a = record { rules = n * a.rules; tokens = n * a.tokens }

-- of a member
abbrev pub member_amount : Types → MemberTree → Amount
member_amount ts (MemberTree.Field f) = times_amount (length f.names) (field_amount ts f)
member_amount ts (MemberTree.Rule r) = rule_amount r
member_amount ts (MemberTree.Do place phase) = no_amount
