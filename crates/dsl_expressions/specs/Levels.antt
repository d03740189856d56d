-- The levels of expressions: `Expr` 0, `Or` 1, `And` 2, `Not` 3, `Relation` 4, `Sum` 5, `Product` 6,
-- `Minus` 7, `Postfix` 8 and `Primary` 9.
use Rattle.std.specs.Prelude.{◌∷◌, ◌++◌, map}
use Rattle.dsl_tree.specs.{declared.expr.Expr.Expr, declared.expr.Further.Further, declared.expr.Suffix.Suffix, declared.token.WordKind.TheVariants.FalseWord, declared.token.WordKind.TheVariants.ItWord, declared.token.WordKind.TheVariants.RangeWord, declared.token.WordKind.TheVariants.TrueWord, Views.SuffixTree, Views.Named, Views.expr_tree, Views.suffix_tree, Written.written, Written.operator_kind, Written.mark_at, Written.expr}
use Rattle.dsl_cursor.specs.Words.{ℕ, Bool, true, false, List, [], MarkKind, ActorWord, mark_code, word_code, physical_code, text_code, numbers, names, Part, Forest, nil, seen, sub, first, mark, ident, cond}
use Rattle.dsl_tree.specs.declared.expr.Expr.TheViews
use Rattle.dsl_tree.specs.Views.{At}
use Rattle.dsl_tree.specs.Written.{at}
use Rattle.dsl_expressions.specs.declared.{levels.RowLevel.RowLevel, levels.RowLevel.TheVariants.OrRow, levels.RowLevel.TheVariants.AndRow, levels.RowLevel.TheVariants.SumRow, levels.RowLevel.TheVariants.ProductRow}

-- what an expression is written as in a place for one of a level
unfoldable pub at_level : ℕ → Expr → Forest
at_level n e = at n (expr_tree e) (written (expr_tree e))

-- The rows of operators. A row has its own part and level, and the part and level of its items.
-- A further part is what stands after the first item.

abbrev pub row_part : RowLevel → Part
row_part OrRow = Part.Or
row_part AndRow = Part.And
row_part SumRow = Part.Sum
row_part ProductRow = Part.Product

abbrev pub row_level : RowLevel → ℕ
row_level OrRow = 1
row_level AndRow = 2
row_level SumRow = 5
row_level ProductRow = 6

abbrev pub item_part : RowLevel → Part
item_part OrRow = Part.And
item_part AndRow = Part.Not
item_part SumRow = Part.Product
item_part ProductRow = Part.Minus

abbrev pub item_level : RowLevel → ℕ
item_level OrRow = 2
item_level AndRow = 3
item_level SumRow = 6
item_level ProductRow = 7

abbrev pub tail_part : RowLevel → Part
tail_part OrRow = Part.OrTail
tail_part AndRow = Part.AndTail
tail_part SumRow = Part.SumTail
tail_part ProductRow = Part.ProductTail

-- such a row as an expression
abbrev pub row_node : RowLevel → Expr → List Further → Expr
row_node OrRow first rest = TheViews.Or first rest
row_node AndRow first rest = TheViews.And first rest
row_node SumRow first rest = TheViews.Sum first rest
row_node ProductRow first rest = TheViews.Product first rest

-- the codes of its operators
abbrev pub operators : RowLevel → List ℕ
operators row = first (tail_part row)

-- operators, each with the item after it
abbrev pub tail_of : ℕ → List Further → Forest
tail_of n [] = nil
tail_of n (next ∷ rest) = seen next.place (operator_kind next.operator) (sub (at_level n next.part) (sub (tail_of n rest) nil))

-- suffixes
abbrev pub suffix_forest : SuffixTree → Forest
suffix_forest (Named name) = mark MarkKind.Dot (ident name nil)
suffix_forest (At place index) = mark_at place MarkKind.OpenSquare (sub (expr index) (mark MarkKind.CloseSquare nil))

unfoldable pub suffix_of : Suffix → Forest
suffix_of s = suffix_forest (suffix_tree s)

abbrev pub suffixes_of : List Suffix → Forest
suffixes_of [] = nil
suffixes_of (s ∷ rest) = sub (suffix_of s) (sub (suffixes_of rest) nil)

-- whether a suffix is a name, and whether the last one is
abbrev pub is_named : SuffixTree → Bool
is_named (Named name) = true
is_named (At place index) = false

abbrev pub ends_named : List SuffixTree → Bool
ends_named [] = false
ends_named (x ∷ []) = is_named x
ends_named (x ∷ y ∷ rest) = ends_named (y ∷ rest)

-- an operand with suffixes
abbrev pub post_node : Expr → List Suffix → Expr
post_node head suffixes = cond (ends_named (map suffix_tree suffixes)) (TheViews.Expr::Dot head suffixes) (TheViews.Expr::Index head suffixes)

-- items of a list, each after a comma
abbrev pub items_of : List Expr → Forest
items_of [] = nil
items_of (item ∷ rest) = mark MarkKind.Comma (sub (at_level 0 item) (sub (items_of rest) nil))

-- what stands after the first expression in square brackets
abbrev pub bracket_rest : Forest → Forest
bracket_rest (seen place kind (sub first (sub f nil))) = f
bracket_rest f = f

-- the codes of words that are operands
abbrev pub truth_codes : List ℕ
truth_codes = word_code TrueWord ∷ word_code FalseWord ∷ word_code ItWord ∷ word_code ActorWord ∷ []

-- the codes of brackets and of `range`
abbrev pub bracket_codes : List ℕ
bracket_codes = mark_code MarkKind.OpenRound ∷ mark_code MarkKind.OpenSquare ∷ word_code RangeWord ∷ []

-- the codes of the values of one token: names, numbers, physical literals and strings
abbrev pub value_codes : List ℕ
value_codes = names ++ (numbers ++ (physical_code ∷ text_code ∷ []))
