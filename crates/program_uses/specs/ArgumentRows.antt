-- The faults of arguments, given the fields of what is invoked.
use Rattle.std.specs.Prelude.{◌≡◌, ℕ, ◌+◌, Option, Some, None, List, [], ◌∷◌, ◌++◌, bytes_eq, cond, find, slice_get}
use Rattle.std.specs.Option.{option_map_or}
use Rattle.osc_base.specs.declared.fault.Fault.{Fault}
use Rattle.osc_base.specs.FaultRows.{FaultRow, first_from}
use Rattle.dsl_tree.specs.declared.parts.Ident.{Ident}
use Rattle.dsl_tree.specs.ExprTree.{ExprTree}
use Rattle.dsl_tree.specs.FileTree.{FieldTree}
use Rattle.dsl_tree.specs.PhaseTree.{ArgumentTree}
use Rattle.fault_sets.specs.NameRows.{HasTexts}
use Rattle.expr_nodes.specs.type_heads.Table.{Table, named}
use Rattle.expr_nodes.specs.type_heads.Types.{Field}
use Rattle.expr_nodes.specs.Fits.{argument_fit_rows}
use Rattle.expr_nodes.specs.Names.{is_duration}
use Rattle.expr_nodes.specs.Scope.{Scope}
use Rattle.expr_nodes.specs.Typing.{typed, expr_rows, first}
use Rattle.program_calls.specs.composition.Calls.{Assigned}
use Rattle.program_calls.specs.composition.Uses.{assigned_rows, given_rows, name_assigned, with_kind}
use Rattle.program_uses.specs.declared.arguments.Assigned.{Assigned as OwnAssigned}
use Rattle.program_fields.specs.SeenFields.{seen_field}
use Rattle.program_uses.specs.TableTypes.{of_table}

-- where an argument goes
abbrev pub seen_assigned : OwnAssigned → Assigned
seen_assigned OwnAssigned.Surplus = Assigned.Surplus
seen_assigned OwnAssigned.Duration = Assigned.Duration
seen_assigned (OwnAssigned.Unknown name) = Assigned.Unknown name.now
seen_assigned (OwnAssigned.Given field) = Assigned.Given (seen_field field)

-- where the argument at place n goes, given the fields
abbrev pub assigned_in : List Field → ℕ → Option Ident → Assigned
assigned_in fields n None = option_map_or Assigned.Given (slice_get fields n) Assigned.Surplus
assigned_in fields n (Some name) = cond (is_duration name.text) Assigned.Duration (option_map_or Assigned.Given (find (λ (f : Field). bytes_eq f.name.text name.text) fields) (Assigned.Unknown name))

-- an argument for a field of one value of type t
abbrev pub value_rows : Table → Scope → ℕ → ExprTree → List FaultRow
value_rows table sc t e = with_kind (of_table None table) t (λ k s. argument_fit_rows k s (first e) (typed table sc e))

-- an argument for a field that is no list
abbrev pub field_value_rows : Table → Scope → FieldTree → ExprTree → List FaultRow
field_value_rows table sc f e = option_map_or (λ t. given_rows (of_table None table) sc t e) (named table.heads None f.of.text) []

-- the arguments of an invocation, from place n on, given the fields
abbrev pub arguments_in : Table → Scope → List Field → List (List ℕ) → ℕ → List ArgumentTree → List FaultRow
arguments_in table sc fields earlier n [] = []
arguments_in table sc fields earlier n (a ∷ others) =
    let to = assigned_in fields n a.name in
    expr_rows table sc a.value ++ assigned_rows (of_table None table) sc earlier a to ++ arguments_in table sc fields (name_assigned to ++ earlier) (n + 1) others

-- after an argument that goes there, a set has its name too
abbrev pub Continues : Table → Scope → Option Fault → List (List ℕ) → Option Fault → List (List ℕ) → ArgumentTree → Assigned → Type 0
Continues table sc first old found new a to =
    (earlier : List (List ℕ)) → HasTexts old earlier → HasTexts new (name_assigned to ++ earlier) × (found ≡ first_from first (assigned_rows (of_table None table) sc earlier a to))
