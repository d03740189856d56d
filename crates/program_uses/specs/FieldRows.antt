-- The faults of a field, given the scope of its initial value.
use Rattle.std.specs.Prelude.{Option, None, List, [], ◌++◌, flat_map, is_some, option_map}
use Rattle.std.specs.Option.{option_map_or}
use Rattle.osc_base.specs.FaultRows.{FaultRow}
use Rattle.dsl_tree.specs.ExprTree.{ExprTree}
use Rattle.dsl_tree.specs.FileTree.{FieldTree}
use Rattle.expr_nodes.specs.type_heads.Table.{Table, named}
use Rattle.expr_nodes.specs.type_heads.Members.{list_length}
use Rattle.expr_nodes.specs.Scope.{It, Scope}
use Rattle.expr_nodes.specs.Typing.{expr_rows}
use Rattle.program_calls.specs.composition.Uses.{rule_rows, values_given, values_rows, with_kind}
use Rattle.program_uses.specs.TableTypes.{of_table}

-- what a field holds, for what is given to it
abbrev pub fitted_rows : Table → Scope → FieldTree → ExprTree → List FaultRow
fitted_rows table sc f e = option_map_or (λ of. with_kind (of_table None table) of (values_rows table sc (values_given (is_some f.list) e))) (named table.heads None f.of.text) []

-- an initial value
abbrev pub initial_in : Table → Scope → FieldTree → ExprTree → List FaultRow
initial_in table sc f e = expr_rows table sc e ++ fitted_rows table sc f e

-- what `it` is in the `with:` of a field
abbrev pub field_it : Table → FieldTree → Option It
field_it table f = option_map (λ of. It.Of of (list_length f)) (named table.heads None f.of.text)

-- an initial value and a `with:`
abbrev pub field_in : Table → Scope → FieldTree → List FaultRow
field_in table sc f = option_map_or (initial_in table sc f) f.initial [] ++ flat_map (rule_rows table (record sc { it = field_it table f })) f.rules
