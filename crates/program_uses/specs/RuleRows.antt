-- The faults of rules, by what stands in their brackets.
use Rattle.std.specs.Prelude.{List, ◌++◌, ◌∷◌}
use Rattle.osc_base.specs.declared.fault.FaultCode.{FaultCode}
use Rattle.osc_base.specs.FaultRows.{FaultRow, row}
use Rattle.dsl_tree.specs.declared.rules.KeepKind.{KeepKind}
use Rattle.dsl_tree.specs.ExprTree.{ExprTree}
use Rattle.expr_nodes.specs.type_heads.Table.{Table}
use Rattle.expr_nodes.specs.Scope.{Scope}
use Rattle.expr_nodes.specs.Fits.{constraint_rows, is_read}
use Rattle.expr_nodes.specs.Typing.{typed, expr_rows, first}
use Rattle.program_calls.specs.composition.Uses.{default_rows, isnt_path_to}

-- those of a constraint
abbrev pub keep_rows : Table → Scope → KeepKind → ExprTree → List FaultRow
keep_rows table sc keep e = expr_rows table sc e ++ constraint_rows (first e) (typed table sc e) ++ default_rows table sc keep e

-- those of a path whose defaults are removed
abbrev pub remove_rows : Table → Scope → ExprTree → List FaultRow
remove_rows table sc path = row (first path) FaultCode.WrongKind (isnt_path_to table sc is_read path) ∷ expr_rows table sc path
