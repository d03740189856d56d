-- Parts of an expression that some faults look at.
use Rattle.std.specs.Prelude.{List, Option, Some, None, map}
use Rattle.std.specs.Borrow.{Bor}
use Rattle.dsl_tree.specs.declared.expr.Expr.{Expr}
use Rattle.dsl_tree.specs.ExprTree.{ExprTree, items_of}
use Rattle.dsl_tree.specs.Views.{expr_tree}

-- the left side of a relation
abbrev pub left_in : ExprTree → Option ExprTree
left_in (ExprTree.Relation place sign left right) = Some left
left_in _ = None

-- the items of a list
abbrev pub listed_items : ExprTree → Option (List ExprTree)
listed_items (ExprTree.Listed place items) = Some (items_of items)
listed_items _ = None

-- an expression, and some of them
abbrev pub seen_expr : Bor Expr → ExprTree
seen_expr e = expr_tree e.now

abbrev pub seen_exprs : Bor (List Expr) → List ExprTree
seen_exprs es = map expr_tree es.now
