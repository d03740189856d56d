-- The tokens of parts of rows.
use Rattle.std.specs.Prelude.{ℕ, ◌+◌}
use Rattle.dsl_tree.specs.declared.expr.Expr.{Expr}
use Rattle.dsl_tree.specs.declared.expr.Suffix.{Suffix}
use Rattle.dsl_tree.specs.declared.expr.Further.{Further}
use Rattle.dsl_tree.specs.declared.phases.Argument.{Argument}
use Rattle.dsl_tree.specs.Views.{SuffixTree, Named, At, expr_tree, suffix_tree, further_tree, argument_tree}
use Rattle.expansion_laws.specs.composition.Tokens.{tokens, argument_tokens}

-- an operator with the part after it
abbrev pub further_count : Further → ℕ
further_count f = 1 + tokens (further_tree f).part

-- a name or an index
abbrev pub suffix_tokens : SuffixTree → ℕ
suffix_tokens (Named name) = 2
suffix_tokens (At place index) = 2 + tokens index

abbrev pub suffix_count : Suffix → ℕ
suffix_count s = suffix_tokens (suffix_tree s)

-- an item, with the comma or bracket after it
abbrev pub item_count : Expr → ℕ
item_count e = tokens (expr_tree e) + 1

-- an argument, with the comma before it
abbrev pub later_count : Argument → ℕ
later_count a = 1 + argument_tokens (argument_tree a)
