-- The words of the definitions here, and those that `dsl_cursor` doesn't pass on.
pub use Rattle.dsl_tree.specs.ExprTree.{ExprTree}
pub use Rattle.dsl_tree.specs.Views.{argument_tree, expr_tree, suffix_tree, SuffixTree, FurtherTree, further_tree, grouped, indexed_row, named_row, with_suffixes}
pub use Rattle.dsl_tree.specs.Written.{operator_kind, expr, word_at, mark_at, sign_kind, written, level, lifted, listed_tail, next_part, raised}
pub use Rattle.dsl_tree.specs.declared.{expr.Expr.Expr, expr.Further.Further, expr.Operator.Operator, expr.RelationSign.RelationSign, expr.Suffix.Suffix, phases.Argument.Argument, token.WordKind.TheVariants.ItWord}
pub use Rattle.dsl_expressions.specs.Arguments.{HasMore, IsNamed, IsPlain, arguments_of}
unfoldable pub use Rattle.dsl_expressions.specs.Levels.{at_level, suffix_of}
pub use Rattle.dsl_expressions.specs.Levels.{bracket_codes, ends_named, is_named, item_level, item_part, items_of, operators, post_node, row_level, row_node, row_part, suffix_forest, suffixes_of, tail_of, tail_part, truth_codes, value_codes}
pub use Rattle.dsl_expressions.specs.declared.{levels.RowLevel.TheVariants.AndRow, levels.RowLevel.TheVariants.OrRow, levels.RowLevel.TheVariants.ProductRow, levels.RowLevel.RowLevel, levels.RowLevel.TheVariants.SumRow}
