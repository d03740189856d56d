-- What an expression is written as.
use Rattle.std.specs.Prelude.{ℕ, zero, suc, ◌-◌, ◌==◌, nat_lt, Bool, true, false, cond, ◌||◌}
use Rattle.osc_base.specs.declared.fault.Place.{Place}
use Rattle.dsl_tree.specs.declared.parts.Ident.{Ident}
use Rattle.dsl_tree.specs.declared.parts.Digits.{Digits}
use Rattle.dsl_tree.specs.declared.expr.Operator.{Operator}
use Rattle.dsl_tree.specs.declared.expr.RelationSign.{RelationSign}
use Rattle.dsl_tree.specs.declared.token.TokenKind.{TokenKind}
use Rattle.dsl_tree.specs.declared.token.MarkKind.{MarkKind}
use Rattle.dsl_tree.specs.declared.token.MarkKind.TheVariants.{Below}
use Rattle.dsl_tree.specs.declared.token.WordKind.{WordKind}
use Rattle.dsl_tree.specs.ExprTree.{ExprTree, Implies, Or, And, Not, Relation, Sum, Product, Minus, Dot, Index, Number, Physical, Chars, Truth, It, Actor, Name, EnumName, Group, Span, Listed, RangeCall, Start, ExprRow, End, Item}
use Rattle.dsl_tree.specs.Forest.{Forest, nil, seen, bare, sub, wrong}

-- Tokens, each with what stands after it

abbrev pub mark : MarkKind → Forest → Forest
mark m f = bare (TokenKind.Mark m) f

abbrev pub word : WordKind → Forest → Forest
word w f = bare (TokenKind.Word w) f

abbrev pub mark_at : Place → MarkKind → Forest → Forest
mark_at place m f = seen place (TokenKind.Mark m) f

abbrev pub word_at : Place → WordKind → Forest → Forest
word_at place w f = seen place (TokenKind.Word w) f

abbrev pub ident : Ident → Forest → Forest
ident name f = seen name.place (TokenKind.Name name.text) f

abbrev pub digits : Digits → Forest → Forest
digits number f = seen number.place (TokenKind.Number number.digits number.places) f

abbrev pub truth_word : Bool → WordKind
truth_word true = WordKind.TrueWord
truth_word false = WordKind.FalseWord

abbrev pub operator_kind : Operator → TokenKind
operator_kind Operator.Or = TokenKind.Word WordKind.OrWord
operator_kind Operator.And = TokenKind.Word WordKind.AndWord
operator_kind Operator.Plus = TokenKind.Mark MarkKind.Plus
operator_kind Operator.Dash = TokenKind.Mark MarkKind.Dash
operator_kind Operator.Star = TokenKind.Mark MarkKind.Star
operator_kind Operator.Slash = TokenKind.Mark MarkKind.Slash

abbrev pub sign_kind : RelationSign → TokenKind
sign_kind RelationSign.Equal = TokenKind.Mark MarkKind.Equal
sign_kind RelationSign.Differ = TokenKind.Mark MarkKind.Differ
sign_kind RelationSign.Below = TokenKind.Mark Below
sign_kind RelationSign.AtMost = TokenKind.Mark MarkKind.AtMost
sign_kind RelationSign.Above = TokenKind.Mark MarkKind.Above
sign_kind RelationSign.AtLeast = TokenKind.Mark MarkKind.AtLeast
sign_kind RelationSign.Within = TokenKind.Word WordKind.InWord

-- Levels: the ten parts of an expression, from the whole of it to its operands. They are 0 `Expr`,
-- 1 `Or`, 2 `And`, 3 `Not`, 4 `Relation`, 5 `Sum`, 6 `Product`, 7 `Minus`, 8 `Postfix`, 9 `Primary`.

abbrev pub level : ExprTree → ℕ
level (Implies place left right) = 0
level (Or place operator left right) = 1
level (And place operator left right) = 2
level (Not place part) = 3
level (Relation place sign left right) = 4
level (Sum place operator left right) = 5
level (Product place operator left right) = 6
level (Minus place part) = 7
level (Dot head name) = 8
level (Index place head index) = 8
level _ = 9

-- A part of the next level, as one of this level: it has an empty tail after it, but in a `Not` (3)
-- and a `Minus` (7), which have none.
abbrev pub lifted : ℕ → Forest → Forest
lifted own f = cond ((own == 3) || (own == 7)) (sub f nil) (sub f (sub nil nil))

-- a part of the level `wanted + steps`, as one of the level `wanted`
abbrev pub raised : ℕ → ℕ → Forest → Forest
raised zero wanted f = f
raised (suc steps) wanted f = lifted wanted (raised steps (suc wanted) f)

-- a tree that is written as f, in a place for one of the level `wanted`
abbrev pub at : ℕ → ExprTree → Forest → Forest
at wanted tree f = cond (nat_lt (level tree) wanted) wrong (raised (level tree - wanted) wanted f)

-- an operator, the part after it, and the rest of the row
abbrev pub next_part : Place → Operator → Forest → Forest → Forest
next_part place operator part rest = seen place (operator_kind operator) (sub part (sub rest nil))

-- a suffix, and the rest of the row
abbrev pub next_name : Ident → Forest → Forest
next_name name rest = sub (mark MarkKind.Dot (ident name nil)) (sub rest nil)

abbrev pub next_index : Place → Forest → Forest → Forest
next_index place index rest = sub (mark_at place MarkKind.OpenSquare (sub index (mark MarkKind.CloseSquare nil))) (sub rest nil)

abbrev mutual
  -- a tree, at its own level
  pub written : ExprTree → Forest
  written (Implies place left right) =
      sub (at 1 left (written left)) (sub (mark_at place MarkKind.Arrow (sub (at 1 right (written right)) nil)) nil)
  written (Or place operator left right) = or_row left (next_part place operator (at 2 right (written right)) nil)
  written (And place operator left right) = and_row left (next_part place operator (at 3 right (written right)) nil)
  written (Not place part) = word_at place WordKind.NotWord (sub (at 4 part (written part)) nil)
  written (Relation place sign left right) =
      sub (at 5 left (written left)) (sub (seen place (sign_kind sign) (sub (at 5 right (written right)) nil)) nil)
  written (Sum place operator left right) = sum_row left (next_part place operator (at 6 right (written right)) nil)
  written (Product place operator left right) = product_row left (next_part place operator (at 7 right (written right)) nil)
  written (Minus place part) = mark_at place MarkKind.Dash (sub (at 8 part (written part)) nil)
  written (Dot head name) = post_row head (next_name name nil)
  written (Index place head index) = post_row head (next_index place (at 0 index (written index)) nil)
  written (Number number) = digits number nil
  written (Physical number unit) = seen number.place (TokenKind.Physical number.digits number.places unit) nil
  written (Chars place text) = seen place (TokenKind.Chars text) nil
  written (Truth place value) = word_at place (truth_word value) nil
  written (It place) = word_at place WordKind.ItWord nil
  written (Actor place) = word_at place WordKind.ActorWord nil
  written (Name name) = ident name (sub nil nil)
  written (EnumName of member) = ident of (sub (mark MarkKind.Bang (ident member nil)) nil)
  written (Group place inner) =
      mark_at place MarkKind.OpenRound (sub (at 0 inner (written inner)) (mark MarkKind.CloseRound nil))
  written (Span place low high) =
      mark_at place MarkKind.OpenSquare (sub (at 0 low (written low)) (sub (mark MarkKind.TwoDots
      (sub (at 0 high (written high)) (mark MarkKind.CloseSquare nil))) nil))
  written (Listed place items) = mark_at place MarkKind.OpenSquare (listed items)
  written (RangeCall place low high) =
      word_at place WordKind.RangeWord (mark MarkKind.OpenRound (sub (at 0 low (written low)) (mark MarkKind.Comma
      (sub (at 0 high (written high)) (mark MarkKind.CloseRound nil)))))
  written (Start first) = wrong

  -- the left side of a row of operators, with the rest of the row
  pub or_row : ExprTree → Forest → Forest
  or_row (Start first) rest = sub (at 2 first (written first)) (sub rest nil)
  or_row (Or place operator left right) rest = or_row left (next_part place operator (at 2 right (written right)) rest)
  or_row _ rest = wrong

  pub and_row : ExprTree → Forest → Forest
  and_row (Start first) rest = sub (at 3 first (written first)) (sub rest nil)
  and_row (And place operator left right) rest = and_row left (next_part place operator (at 3 right (written right)) rest)
  and_row _ rest = wrong

  pub sum_row : ExprTree → Forest → Forest
  sum_row (Start first) rest = sub (at 6 first (written first)) (sub rest nil)
  sum_row (Sum place operator left right) rest = sum_row left (next_part place operator (at 6 right (written right)) rest)
  sum_row _ rest = wrong

  pub product_row : ExprTree → Forest → Forest
  product_row (Start first) rest = sub (at 7 first (written first)) (sub rest nil)
  product_row (Product place operator left right) rest = product_row left (next_part place operator (at 7 right (written right)) rest)
  product_row _ rest = wrong

  -- the expression before the suffixes, then the suffixes, then `rest`
  pub post_row : ExprTree → Forest → Forest
  post_row (Start head) rest = sub (at 9 head (written head)) (sub rest nil)
  post_row (Dot head name) rest = post_row head (next_name name rest)
  post_row (Index place head index) rest = post_row head (next_index place (at 0 index (written index)) rest)
  post_row _ rest = wrong

  -- the items of a list after its opening bracket, one at least; and those after the first
  pub listed : ExprRow → Forest
  listed End = wrong
  listed (Item item others) = sub (at 0 item (written item)) (sub (sub (listed_tail others) (mark MarkKind.CloseSquare nil)) nil)

  pub listed_tail : ExprRow → Forest
  listed_tail End = nil
  listed_tail (Item item others) = mark MarkKind.Comma (sub (at 0 item (written item)) (sub (listed_tail others) nil))

-- a whole expression
abbrev pub expr : ExprTree → Forest
expr tree = at 0 tree (written tree)

-- a path: a name, `it` or `actor`, and any suffixes
abbrev pub path_row : ExprTree → Forest → Forest
path_row (Name name) rest = ident name (sub rest nil)
path_row (It place) rest = word_at place WordKind.ItWord (sub rest nil)
path_row (Actor place) rest = word_at place WordKind.ActorWord (sub rest nil)
path_row _ rest = wrong

abbrev pub path_front : ExprTree → Forest → Forest
path_front (Start head) rest = path_row head rest
path_front (Dot head name) rest = path_front head (next_name name rest)
path_front (Index place head index) rest = path_front head (next_index place (expr index) rest)
path_front _ rest = wrong

abbrev pub path : ExprTree → Forest
path (Dot head name) = path_front head (next_name name nil)
path (Index place head index) = path_front head (next_index place (expr index) nil)
path tree = path_row tree nil
