-- The typed form of an expression, and its faults: one line for each node.
use Rattle.std.specs.Prelude.{List, [], ◌++◌, Bool, true, false, Option, Some}
use Rattle.type_model.specs.osc_base.declared.fault.Place.{Place}
use Rattle.type_model.specs.osc_base.FaultRows.{FaultRow}
use Rattle.type_model.specs.dsl_tree.ExprTree.{ExprTree, Implies, Or, And, Not, Relation, Sum, Product, Minus, Dot, Index, Number, Physical, Chars, Truth, It, Actor, Name, EnumName, Group, Span, Listed, RangeCall, Start, ExprRow, End, Item}
use Rattle.type_model.specs.type_heads.Table.{Table}
use Rattle.expr_nodes.specs.Typed as Types
use Rattle.expr_nodes.specs.Typed.{Typed, TypedRow}
use Rattle.expr_nodes.specs.Scope.{Scope}
use Rattle.expr_nodes.specs.Names.{name_rows, name_typed, it_rows, it_typed, actor_rows, actor_typed, enum_name_rows, enum_name_typed, dot_rows, dot_typed}
use Rattle.expr_nodes.specs.Operators.{number_rows, number_typed, truth_typed, text_typed, physical_rows, physical_typed, not_rows, not_typed, logic_rows, and_typed, or_typed, implies_typed, minus_rows, minus_typed, sum_rows, sum_typed, factor_rows, factor_typed, relation_rows, relation_typed, part_rows, span_rows, span_typed, item_typed, list_typed, index_rows, index_typed, group_typed}

-- the typed form; none if the expression or a part of it has a fault
abbrev mutual
  pub typed : Table → Scope → ExprTree → Option Typed
  typed table sc (Implies p a b) = implies_typed p (typed table sc a) (typed table sc b)
  typed table sc (Or p op a b) = or_typed p (typed table sc a) (typed table sc b)
  typed table sc (And p op a b) = and_typed p (typed table sc a) (typed table sc b)
  typed table sc (Not p a) = not_typed p (typed table sc a)
  typed table sc (Relation p sign a b) = relation_typed p sign (typed table sc a) (typed table sc b)
  typed table sc (Sum p op a b) = sum_typed p op (typed table sc a) (typed table sc b)
  typed table sc (Product p op a b) = factor_typed p op (typed table sc a) (typed table sc b)
  typed table sc (Minus p a) = minus_typed p (typed table sc a)
  typed table sc (Dot head i) = dot_typed table (typed table sc head) i
  typed table sc (Index p head index) = index_typed (typed table sc head) index
  typed table sc (Number d) = number_typed d
  typed table sc (Physical d unit) = physical_typed table d unit
  typed table sc (Chars p text) = text_typed table p text
  typed table sc (Truth p value) = truth_typed p value
  typed table sc (It p) = it_typed table sc p
  typed table sc (Actor p) = actor_typed table sc p
  typed table sc (Name i) = name_typed table sc i
  typed table sc (EnumName of member) = enum_name_typed table of member
  typed table sc (Group p a) = group_typed p (typed table sc a)
  typed table sc (Span p a b) = span_typed p (typed table sc a) (typed table sc b)
  typed table sc (Listed p items) = list_typed p (typed_row table sc items)
  typed table sc (RangeCall p a b) = span_typed p (typed table sc a) (typed table sc b)
  typed table sc (Start a) = typed table sc a

  pub typed_row : Table → Scope → ExprRow → Option TypedRow
  typed_row table sc End = Some Types.End
  typed_row table sc (Item a others) = item_typed (typed table sc a) (typed_row table sc others)

-- the faults of an expression and of all its parts
abbrev mutual
  pub expr_rows : Table → Scope → ExprTree → List FaultRow
  expr_rows table sc (Implies p a b) = logic_rows p (typed table sc a) (typed table sc b) ++ expr_rows table sc a ++ expr_rows table sc b
  expr_rows table sc (Or p op a b) = logic_rows p (typed table sc a) (typed table sc b) ++ expr_rows table sc a ++ expr_rows table sc b
  expr_rows table sc (And p op a b) = logic_rows p (typed table sc a) (typed table sc b) ++ expr_rows table sc a ++ expr_rows table sc b
  expr_rows table sc (Not p a) = not_rows p (typed table sc a) ++ expr_rows table sc a
  expr_rows table sc (Relation p sign a b) = relation_rows p sign (typed table sc a) (typed table sc b) ++ expr_rows table sc a ++ expr_rows table sc b
  expr_rows table sc (Sum p op a b) = sum_rows p (typed table sc a) (typed table sc b) ++ expr_rows table sc a ++ expr_rows table sc b
  expr_rows table sc (Product p op a b) = factor_rows p op (typed table sc a) (typed table sc b) ++ expr_rows table sc a ++ expr_rows table sc b
  expr_rows table sc (Minus p a) = minus_rows p (typed table sc a) ++ expr_rows table sc a
  expr_rows table sc (Dot head i) = dot_rows table (typed table sc head) i ++ expr_rows table sc head
  expr_rows table sc (Index p head index) = index_rows p (typed table sc head) index ++ expr_rows table sc head ++ expr_rows table sc index
  expr_rows table sc (Number d) = number_rows d
  expr_rows table sc (Physical d unit) = physical_rows table d unit
  expr_rows table sc (Chars p text) = []
  expr_rows table sc (Truth p value) = []
  expr_rows table sc (It p) = it_rows sc p
  expr_rows table sc (Actor p) = actor_rows table sc p
  expr_rows table sc (Name i) = name_rows table sc i
  expr_rows table sc (EnumName of member) = enum_name_rows table of member
  expr_rows table sc (Group p a) = expr_rows table sc a
  expr_rows table sc (Span p a b) = span_rows (typed table sc a) (typed table sc b) ++ expr_rows table sc a ++ expr_rows table sc b
  expr_rows table sc (Listed p items) = items_rows table sc items
  expr_rows table sc (RangeCall p a b) = span_rows (typed table sc a) (typed table sc b) ++ expr_rows table sc a ++ expr_rows table sc b
  expr_rows table sc (Start a) = expr_rows table sc a

  pub items_rows : Table → Scope → ExprRow → List FaultRow
  items_rows table sc End = []
  items_rows table sc (Item a others) = part_rows (typed table sc a) ++ expr_rows table sc a ++ items_rows table sc others

-- the place of the first token
abbrev pub first : ExprTree → Place
first (Implies p a b) = first a
first (Or p op a b) = first a
first (And p op a b) = first a
first (Not p a) = p
first (Relation p sign a b) = first a
first (Sum p op a b) = first a
first (Product p op a b) = first a
first (Minus p a) = p
first (Dot head i) = first head
first (Index p head index) = first head
first (Number d) = d.place
first (Physical d unit) = d.place
first (Chars p text) = p
first (Truth p value) = p
first (It p) = p
first (Actor p) = p
first (Name i) = i.place
first (EnumName of member) = of.place
first (Group p a) = p
first (Span p a b) = p
first (Listed p items) = p
first (RangeCall p a b) = p
first (Start a) = first a

-- a name, `it` or `actor` with any names and indexes after it; an expression in brackets is none
abbrev pub is_path : ExprTree → Bool
is_path (Name i) = true
is_path (It p) = true
is_path (Actor p) = true
is_path (Dot head i) = is_path head
is_path (Index p head index) = is_path head
is_path (Start a) = is_path a
is_path _ = false
