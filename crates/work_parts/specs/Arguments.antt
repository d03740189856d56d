-- How many rules and copied tokens the constraints of arguments have.
use Rattle.std.specs.Prelude.{ℕ, ◌+◌, Bool, false, cond, List, [], ◌∷◌, Option, Some, None, find, slice_get}
use Rattle.std.specs.Option.{option_map_or}
use Rattle.osc_base.specs.declared.fault.Place.{Place}
use Rattle.dsl_tree.specs.declared.parts.Ident.{Ident}
use Rattle.dsl_tree.specs.ExprTree.{ExprTree}
use Rattle.dsl_tree.specs.PhaseTree.{ArgumentTree}
use Rattle.expr_nodes.specs.type_heads.Table.{Table}
use Rattle.expr_nodes.specs.type_heads.Types.{Field}
use Rattle.expr_nodes.specs.Fits.{is_read}
use Rattle.expr_nodes.specs.Names.{is_duration}
use Rattle.expr_nodes.specs.Scope.{It, Scope}
use Rattle.expr_nodes.specs.Typed.{Typed}
use Rattle.expr_nodes.specs.Typing.{first, typed}
use Rattle.work_counts.specs.program_fields.SeenFields.{has_name}
use Rattle.work_counts.specs.Amounts.{Amount, no_amount, plus}
use Rattle.work_counts.specs.TextAmounts.{value_amount}

-- an expression reads one value
abbrev pub reads_one : Option Typed → Bool
reads_one t = option_map_or is_read t false

-- a scope in which `it` is an object of that type
abbrev pub object_scope : ℕ → Scope
object_scope of = record { holder = of; it = Some (It.Of of None); labels = [] }

-- the field of that name of an object of that type has one value
abbrev pub is_parameter : Table → ℕ → Place → Ident → Bool
is_parameter table of place name = reads_one (typed table (object_scope of) (ExprTree.Dot (ExprTree.It place) name))

-- of an argument for a field, if there is one; an argument for an object has no rule
abbrev pub field_amount : Table → ℕ → ExprTree → Option Field → Amount
field_amount table of value None = no_amount
field_amount table of value (Some f) = cond (is_parameter table of (first value) f.name) (value_amount value) no_amount

-- of an argument with a name
abbrev pub named_amount : Table → ℕ → List Field → List ℕ → ExprTree → Amount
named_amount table of fields name value = cond (is_duration name) (value_amount value) (field_amount table of value (find (has_name name) fields))

-- of the argument at place n that has a name or none
abbrev pub assigned_amount : Table → ℕ → List Field → ℕ → ExprTree → Option Ident → Amount
assigned_amount table of fields n value None = field_amount table of value (slice_get fields n)
assigned_amount table of fields n value (Some name) = named_amount table of fields name.text value

-- of the argument at place n
abbrev pub argument_amount : Table → ℕ → List Field → ℕ → ArgumentTree → Amount
argument_amount table of fields n a = assigned_amount table of fields n a.value a.name

-- of arguments, the first of which stands at place n
abbrev pub arguments_amount : Table → ℕ → List Field → ℕ → List ArgumentTree → Amount
arguments_amount table of fields n [] = no_amount
arguments_amount table of fields n (a ∷ others) = plus (argument_amount table of fields n a) (arguments_amount table of fields (n + 1) others)

-- the argument is `duration:`
abbrev pub is_duration_argument : ArgumentTree → Bool
is_duration_argument a = option_map_or (λ (i : Ident). is_duration i.text) a.name false

-- of the stated duration of a composition, if there is one
abbrev pub duration_amount : List ArgumentTree → Amount
duration_amount [] = no_amount
duration_amount (a ∷ others) = cond (is_duration_argument a) (value_amount a.value) (duration_amount others)
