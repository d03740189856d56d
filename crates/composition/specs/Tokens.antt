-- The number of tokens of an expression.
use Rattle.std.specs.Prelude.{ℕ, ◌+◌, List, [], ◌∷◌}
use Rattle.std.specs.Option.{option_map_or}
use Rattle.cond_inherit.specs.dsl_tree.declared.compounds.ConditionValue.{ConditionValue}
use Rattle.cond_inherit.specs.dsl_tree.ExprTree.{ExprTree, ExprRow, Implies, Or, And, Not, Relation, Sum, Product, Minus, Dot, Index, Number, Physical, Chars, Truth, It, Actor, Name, EnumName, Group, Span, Listed, RangeCall, Start, End, Item}
use Rattle.cond_inherit.specs.dsl_tree.PhaseTree.{ArgumentTree}

abbrev mutual
  -- the tokens of an expression
  pub tokens : ExprTree → ℕ
  tokens (Implies place left right) = tokens left + 1 + tokens right
  tokens (Or place operator left right) = tokens left + 1 + tokens right
  tokens (And place operator left right) = tokens left + 1 + tokens right
  tokens (Not place part) = 1 + tokens part
  tokens (Relation place sign left right) = tokens left + 1 + tokens right
  tokens (Sum place operator left right) = tokens left + 1 + tokens right
  tokens (Product place operator left right) = tokens left + 1 + tokens right
  tokens (Minus place part) = 1 + tokens part
  tokens (Dot head name) = tokens head + 2
  tokens (Index place head index) = tokens head + 2 + tokens index
  tokens (Number number) = 1
  tokens (Physical number unit) = 1
  tokens (Chars place text) = 1
  tokens (Truth place value) = 1
  tokens (It place) = 1
  tokens (Actor place) = 1
  tokens (Name name) = 1
  tokens (EnumName of member) = 3
  tokens (Group place inner) = 2 + tokens inner
  tokens (Span place low high) = 3 + tokens low + tokens high
  tokens (Listed place items) = 1 + item_tokens items
  tokens (RangeCall place low high) = 4 + tokens low + tokens high
  tokens (Start first) = tokens first

  -- the items of a list, each with the comma or bracket after it
  pub item_tokens : ExprRow → ℕ
  item_tokens End = 0
  item_tokens (Item item others) = tokens item + 1 + item_tokens others

-- the tokens of a condition's value
abbrev pub value_tokens : ConditionValue → ℕ
value_tokens (ConditionValue.Truth place value) = 1
value_tokens (ConditionValue.Name name) = 1
value_tokens (ConditionValue.EnumName of member) = 3

-- an argument: its name and the colon after it, if it has one, and its expression
abbrev pub argument_tokens : ArgumentTree → ℕ
argument_tokens a = option_map_or (λ name. 2) a.name 0 + tokens a.value

-- what stands between the brackets of a row of arguments, with the commas
abbrev pub arguments_tokens : List ArgumentTree → ℕ
arguments_tokens [] = 0
arguments_tokens (a ∷ []) = argument_tokens a
arguments_tokens (a ∷ next ∷ later) = argument_tokens a + 1 + arguments_tokens (next ∷ later)
