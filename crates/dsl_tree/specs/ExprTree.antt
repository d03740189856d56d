-- Expressions as contracts speak of them: plain recursion over these trees takes the place of the
-- rows and boxes of the program's own `Expr`. `Views.expr_tree` gives the tree of an `Expr`.
use Rattle.std.specs.Prelude.{ℕ, List, [], ◌∷◌, Bool}
use Rattle.osc_base.specs.declared.fault.Place.{Place}
use Rattle.dsl_tree.specs.declared.parts.Ident.{Ident}
use Rattle.dsl_tree.specs.declared.parts.Digits.{Digits}
use Rattle.dsl_tree.specs.declared.expr.Operator.{Operator}
use Rattle.dsl_tree.specs.declared.expr.RelationSign.{RelationSign}

-- Rows are grouped from the left: `a + b - c` is `Sum (Sum (Start a) + b) - c`. The place and
-- the operator of each node are those of the sign before its right part. `a.b[0]` is
-- `Index (Dot (Start a) b) 0`. `Start` is the first part of a row. Anywhere else it is a tree
-- that breaks the grammar, such as a sum with nothing after its first part.
mutual
  pub data ExprTree : Type 0 where
    Implies : (place : Place) (left right : ExprTree) → ExprTree
    Or : (place : Place) (operator : Operator) (left right : ExprTree) → ExprTree
    And : (place : Place) (operator : Operator) (left right : ExprTree) → ExprTree
    Not : (place : Place) (part : ExprTree) → ExprTree
    Relation : (place : Place) (sign : RelationSign) (left right : ExprTree) → ExprTree
    Sum : (place : Place) (operator : Operator) (left right : ExprTree) → ExprTree
    Product : (place : Place) (operator : Operator) (left right : ExprTree) → ExprTree
    Minus : (place : Place) (part : ExprTree) → ExprTree
    Dot : (head : ExprTree) (name : Ident) → ExprTree
    Index : (place : Place) (head index : ExprTree) → ExprTree
    Number : (number : Digits) → ExprTree
    Physical : (number : Digits) (unit : List ℕ) → ExprTree
    Chars : (place : Place) (text : List ℕ) → ExprTree
    Truth : (place : Place) (value : Bool) → ExprTree
    It : (place : Place) → ExprTree
    Actor : (place : Place) → ExprTree
    Name : (name : Ident) → ExprTree
    EnumName : (of member : Ident) → ExprTree
    Group : (place : Place) (inner : ExprTree) → ExprTree
    Span : (place : Place) (low high : ExprTree) → ExprTree
    Listed : (place : Place) (items : ExprRow) → ExprTree
    RangeCall : (place : Place) (low high : ExprTree) → ExprTree
    Start : (first : ExprTree) → ExprTree

  -- the items of a `Listed`, in order
  pub data ExprRow : Type 0 where
    End : ExprRow
    Item : (item : ExprTree) (others : ExprRow) → ExprRow

-- a row as a list, and a list as a row
abbrev pub items_of : ExprRow → List ExprTree
items_of End = []
items_of (Item item others) = item ∷ items_of others

abbrev pub row_of : List ExprTree → ExprRow
row_of [] = End
row_of (item ∷ others) = Item item (row_of others)
