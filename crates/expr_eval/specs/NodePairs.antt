-- The nodes of two parts.
use Rattle.osc_base.specs.declared.fault.Place.{Place}
use Rattle.dsl_tree.specs.declared.expr.Operator.{Operator}
use Rattle.dsl_tree.specs.ExprTree.{ExprTree}
use Rattle.expr_eval.specs.declared.pairs.Level.{Level}
use Rattle.expr_eval.specs.declared.pairs.Pair.{Pair}

-- a node of a row
abbrev pub row_node : Level → Place → Operator → ExprTree → ExprTree → ExprTree
row_node Level.Or = ExprTree.Or
row_node Level.And = ExprTree.And
row_node Level.Sum = ExprTree.Sum
row_node Level.Product = ExprTree.Product

-- a node of two parts
abbrev pub pair_node : Pair → Place → ExprTree → ExprTree → ExprTree
pair_node Pair.Implies place a b = ExprTree.Implies place a b
pair_node (Pair.Relation sign) place a b = ExprTree.Relation place sign a b
pair_node Pair.Span place a b = ExprTree.Span place a b
pair_node Pair.RangeCall place a b = ExprTree.RangeCall place a b
pair_node (Pair.Row level operator) place a b = row_node level place operator a b
