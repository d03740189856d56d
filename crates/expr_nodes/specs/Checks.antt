-- What is known of an expression: its first fault, and its typed form.
use Rattle.std.specs.Prelude.{◌≡◌}
use Rattle.type_model.specs.osc_base.FaultRows.{first_fault}
use Rattle.type_model.specs.dsl_tree.ExprTree.{ExprTree}
use Rattle.type_model.specs.type_heads.Table.{Table}
use Rattle.expr_nodes.specs.declared.parts.Checked.{Checked}
use Rattle.expr_nodes.specs.Scope.{Scope}
use Rattle.expr_nodes.specs.Typing.{typed, expr_rows}
use Rattle.expr_nodes.specs.Seen.{seen_part}

-- this is known of an expression in a scope
abbrev pub IsChecked : Table → Scope → ExprTree → Checked → Type 0
IsChecked table sc e c = (c.fault ≡ first_fault (expr_rows table sc e)) × (seen_part c.typed ≡ typed table sc e)
