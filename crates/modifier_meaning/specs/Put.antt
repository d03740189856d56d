-- Arguments that are put in for parameters: the expression of a modifier's part, as it stands where the modifier is applied.
use Rattle.std.specs.Prelude.{ℕ, Bool, true, false, cond, List, Option, bytes_eq, find}
use Rattle.std.specs.Option.{option_map_or}
use Rattle.composition.specs.dsl_tree.declared.parts.Ident.{Ident}
use Rattle.composition.specs.dsl_tree.ExprTree.{ExprTree, Implies, Or, And, Not, Relation, Sum, Product, Minus, Dot, Index, Number, Physical, Chars, Truth, It, Actor, Name, EnumName, Group, Span, Listed, RangeCall, Start, ExprRow, End, Item}
use Rattle.composition.specs.expr_nodes.Typing.{first, is_path}
use Rattle.composition.specs.ModifierLines.{NamedValue}

-- a path stays as it is, and anything else is put in brackets
abbrev pub operand : ExprTree → ExprTree
operand e = cond (is_path e) e (Group (first e) e)

-- the argument of that name
abbrev pub argument_of : List NamedValue → List ℕ → Option NamedValue
argument_of args name = find (λ (a : NamedValue). bytes_eq a.name name) args

-- a name: the argument that is given for it, or the name itself
abbrev pub put_name : List NamedValue → Ident → ExprTree
put_name args i = option_map_or (λ (a : NamedValue). operand a.value) (argument_of args i.text) (Name i)

-- a name begins a path here
abbrev pub is_front : ExprTree → Bool
is_front (Start (Name i)) = true
is_front _ = false

-- a path with names or indexes after it goes on, and has its own front already
abbrev pub with_front : ExprTree → ExprTree
with_front (Dot head i) = Dot head i
with_front (Index p head index) = Index p head index
with_front e = Start e

-- what a path begins with, once an argument stands there
abbrev pub joined : ExprTree → ExprTree
joined (Start e) = with_front e
joined e = e

-- the head of a path, with the arguments put in
abbrev pub put_front : Bool → ExprTree → ExprTree
put_front true e = joined e
put_front false e = e

abbrev mutual
  -- an expression with arguments put in for the names that are parameters
  pub put : List NamedValue → ExprTree → ExprTree
  put args (Implies p a b) = Implies p (put args a) (put args b)
  put args (Or p op a b) = Or p op (put args a) (put args b)
  put args (And p op a b) = And p op (put args a) (put args b)
  put args (Not p a) = Not p (put args a)
  put args (Relation p sign a b) = Relation p sign (put args a) (put args b)
  put args (Sum p op a b) = Sum p op (put args a) (put args b)
  put args (Product p op a b) = Product p op (put args a) (put args b)
  put args (Minus p a) = Minus p (put args a)
  put args (Dot head i) = Dot (put_front (is_front head) (put args head)) i
  put args (Index p head index) = Index p (put_front (is_front head) (put args head)) (put args index)
  put args (Number d) = Number d
  put args (Physical d unit) = Physical d unit
  put args (Chars p text) = Chars p text
  put args (Truth p value) = Truth p value
  put args (It p) = It p
  put args (Actor p) = Actor p
  put args (Name i) = put_name args i
  put args (EnumName of member) = EnumName of member
  put args (Group p a) = Group p (put args a)
  put args (Span p a b) = Span p (put args a) (put args b)
  put args (Listed p items) = Listed p (put_row args items)
  put args (RangeCall p a b) = RangeCall p (put args a) (put args b)
  put args (Start a) = Start (put args a)

  -- the items of a list
  pub put_row : List NamedValue → ExprRow → ExprRow
  put_row args End = End
  put_row args (Item a others) = Item (put args a) (put_row args others)
