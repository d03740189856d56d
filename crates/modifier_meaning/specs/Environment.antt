-- Expressions of a modifier's parts, read where the modifier is applied: a parameter stands for what its argument comes to there.
use Rattle.std.specs.Prelude.{ℕ, ◌+◌, Bool, true, false, cond, List, Option, Some, bytes_eq, find}
use Rattle.std.specs.Option.{option_map_or}
use Rattle.composition.specs.osc_base.declared.fault.Place.{Place}
use Rattle.composition.specs.dsl_tree.declared.parts.Ident.{Ident}
use Rattle.composition.specs.dsl_tree.ExprTree.{ExprTree, Implies, Or, And, Not, Relation, Sum, Product, Minus, Dot, Index, Number, Physical, Chars, Truth, It, Actor, Name, EnumName, Group, Span, Listed, RangeCall, Start, ExprRow, End, Item}
use Rattle.composition.specs.type_heads.Table.{Table}
use Rattle.composition.specs.expr_nodes.Typed as Types
use Rattle.composition.specs.expr_nodes.Typed.{Typed, TypedRow}
use Rattle.composition.specs.expr_nodes.Scope.{Scope}
use Rattle.composition.specs.expr_nodes.Names.{name_typed, it_typed, actor_typed, enum_name_typed, dot_typed}
use Rattle.composition.specs.expr_nodes.Operators.{number_typed, truth_typed, text_typed, physical_typed, not_typed, and_typed, or_typed, implies_typed, minus_typed, sum_typed, factor_typed, relation_typed, span_typed, item_typed, list_typed, index_typed, group_typed}
use Rattle.composition.specs.ModifierLines.{NamedValue}

-- What a parameter stands for: whether it is a path, where it begins, its typed form, and how many tokens it has.
pub record Argument : Type 0 where
  pub name : List ℕ
  pub is_path : Bool
  pub place : Place
  pub typed : Option Typed
  pub tokens : ℕ

-- what the parameters stand for
abbrev pub Environment : Type 0
Environment = List Argument

-- what a name stands for: what the parameter of that name does, else something else
abbrev pub stands_for : {X : Type 0} → Environment → (Argument → X) → X → Ident → X
stands_for env of other i = option_map_or of (find (λ (a : Argument). bytes_eq a.name i.text) env) other

abbrev mutual
  -- the typed form of an expression
  pub typed_in : Table → Scope → Environment → ExprTree → Option Typed
  typed_in table sc env (Implies p a b) = implies_typed p (typed_in table sc env a) (typed_in table sc env b)
  typed_in table sc env (Or p op a b) = or_typed p (typed_in table sc env a) (typed_in table sc env b)
  typed_in table sc env (And p op a b) = and_typed p (typed_in table sc env a) (typed_in table sc env b)
  typed_in table sc env (Not p a) = not_typed p (typed_in table sc env a)
  typed_in table sc env (Relation p sign a b) = relation_typed p sign (typed_in table sc env a) (typed_in table sc env b)
  typed_in table sc env (Sum p op a b) = sum_typed p op (typed_in table sc env a) (typed_in table sc env b)
  typed_in table sc env (Product p op a b) = factor_typed p op (typed_in table sc env a) (typed_in table sc env b)
  typed_in table sc env (Minus p a) = minus_typed p (typed_in table sc env a)
  typed_in table sc env (Dot head i) = dot_typed table (typed_in table sc env head) i
  typed_in table sc env (Index p head index) = index_typed (typed_in table sc env head) index
  typed_in table sc env (Number d) = number_typed d
  typed_in table sc env (Physical d unit) = physical_typed table d unit
  typed_in table sc env (Chars p text) = text_typed table p text
  typed_in table sc env (Truth p value) = truth_typed p value
  typed_in table sc env (It p) = it_typed table sc p
  typed_in table sc env (Actor p) = actor_typed table sc p
  typed_in table sc env (Name i) = stands_for env (λ a. a.typed) (name_typed table sc i) i
  typed_in table sc env (EnumName of member) = enum_name_typed table of member
  typed_in table sc env (Group p a) = group_typed p (typed_in table sc env a)
  typed_in table sc env (Span p a b) = span_typed p (typed_in table sc env a) (typed_in table sc env b)
  typed_in table sc env (Listed p items) = list_typed p (typed_row_in table sc env items)
  typed_in table sc env (RangeCall p a b) = span_typed p (typed_in table sc env a) (typed_in table sc env b)
  typed_in table sc env (Start a) = typed_in table sc env a

  -- the items of a list
  pub typed_row_in : Table → Scope → Environment → ExprRow → Option TypedRow
  typed_row_in table sc env End = Some Types.End
  typed_row_in table sc env (Item a others) = item_typed (typed_in table sc env a) (typed_row_in table sc env others)

-- where an expression begins
abbrev pub first_in : Environment → ExprTree → Place
first_in env (Implies p a b) = first_in env a
first_in env (Or p op a b) = first_in env a
first_in env (And p op a b) = first_in env a
first_in env (Not p a) = p
first_in env (Relation p sign a b) = first_in env a
first_in env (Sum p op a b) = first_in env a
first_in env (Product p op a b) = first_in env a
first_in env (Minus p a) = p
first_in env (Dot head i) = first_in env head
first_in env (Index p head index) = first_in env head
first_in env (Number d) = d.place
first_in env (Physical d unit) = d.place
first_in env (Chars p text) = p
first_in env (Truth p value) = p
first_in env (It p) = p
first_in env (Actor p) = p
first_in env (Name i) = stands_for env (λ a. a.place) i.place i
first_in env (EnumName of member) = of.place
first_in env (Group p a) = p
first_in env (Span p a b) = p
first_in env (Listed p items) = p
first_in env (RangeCall p a b) = p
first_in env (Start a) = first_in env a

-- an expression is a path
abbrev pub is_path_in : Environment → ExprTree → Bool
is_path_in env (Name i) = stands_for env (λ a. a.is_path) true i
is_path_in env (It p) = true
is_path_in env (Actor p) = true
is_path_in env (Dot head i) = is_path_in env head
is_path_in env (Index p head index) = is_path_in env head
is_path_in env (Start a) = is_path_in env a
is_path_in env _ = false

abbrev mutual
  -- the number of tokens of an expression, with those of the arguments that stand in it
  pub tokens_in : Environment → ExprTree → ℕ
  tokens_in env (Implies p a b) = tokens_in env a + 1 + tokens_in env b
  tokens_in env (Or p op a b) = tokens_in env a + 1 + tokens_in env b
  tokens_in env (And p op a b) = tokens_in env a + 1 + tokens_in env b
  tokens_in env (Not p a) = 1 + tokens_in env a
  tokens_in env (Relation p sign a b) = tokens_in env a + 1 + tokens_in env b
  tokens_in env (Sum p op a b) = tokens_in env a + 1 + tokens_in env b
  tokens_in env (Product p op a b) = tokens_in env a + 1 + tokens_in env b
  tokens_in env (Minus p a) = 1 + tokens_in env a
  tokens_in env (Dot head i) = tokens_in env head + 2
  tokens_in env (Index p head index) = tokens_in env head + 2 + tokens_in env index
  tokens_in env (Number d) = 1
  tokens_in env (Physical d unit) = 1
  tokens_in env (Chars p text) = 1
  tokens_in env (Truth p value) = 1
  tokens_in env (It p) = 1
  tokens_in env (Actor p) = 1
  tokens_in env (Name i) = stands_for env (λ a. a.tokens) 1 i
  tokens_in env (EnumName of member) = 3
  tokens_in env (Group p a) = 2 + tokens_in env a
  tokens_in env (Span p a b) = 3 + tokens_in env a + tokens_in env b
  tokens_in env (Listed p items) = 1 + item_tokens_in env items
  tokens_in env (RangeCall p a b) = 4 + tokens_in env a + tokens_in env b
  tokens_in env (Start a) = tokens_in env a

  -- the items of a list, each with the comma or bracket after it
  pub item_tokens_in : Environment → ExprRow → ℕ
  item_tokens_in env End = 0
  item_tokens_in env (Item a others) = tokens_in env a + 1 + item_tokens_in env others

-- What an argument comes to that is a path or not, begins at a place, and has that typed form and so many tokens. What is no path stands in
-- brackets, which begin where it does.
abbrev pub as_argument : List ℕ → Bool → Place → Option Typed → ℕ → Argument
as_argument name is_path place typed tokens = record {
  name = name;
  is_path = is_path;
  place = place;
  typed = cond is_path typed (group_typed place typed);
  tokens = cond is_path tokens (2 + tokens);
}

-- what an argument comes to where it is written, in the environment there
abbrev pub read_argument : Table → Scope → Environment → NamedValue → Argument
read_argument table sc env v =
    as_argument v.name (is_path_in env v.value) (first_in env v.value) (typed_in table sc env v.value) (tokens_in env v.value)
