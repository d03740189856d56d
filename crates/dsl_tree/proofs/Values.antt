-- The program's expressions and their trees: each is read back from the other.
use Rattle.std.proofs.Common.{◌≡◌, ℕ, List, [], ◌∷◌, Bool, true, map, refl, ◌∙◌, ap, ap₂, subst, ◌&&◌, arith}
use Rattle.std.proofs.lemmas.Bool.{false≢true}
use Rattle.osc_base.specs.declared.fault.Place.{Place}
use Rattle.dsl_tree.specs.declared.expr.Operator.{Operator}
use Rattle.dsl_tree.specs.declared.expr.Expr.{Expr}
use Rattle.dsl_tree.specs.declared.expr.Suffix.{Suffix}
use Rattle.dsl_tree.specs.declared.expr.Further.{Further}
use Rattle.dsl_tree.specs.declared.expr.Expr.TheOpen.{Expr-F, Suffix-F, Further-F}
use Rattle.dsl_tree.specs.declared.expr.Expr.TheFolds.{fold-roll-Expr, fold-roll-Further, ind-Expr, ind-Suffix, map-Expr, map-Suffix, map-Further}
use Rattle.dsl_tree.specs.declared.expr.Expr.TheViews
use Rattle.dsl_tree.specs.declared.expr.Expr.TheViews.{roll-Expr, roll-Suffix, roll-Further}
use Rattle.dsl_tree.specs.ExprTree.{ExprTree, Implies, Or, And, Not, Relation, Sum, Product, Minus, Dot, Index, Number, Physical, Chars, Truth, It, Actor, Name, EnumName, Group, Span, Listed, RangeCall, Start, ExprRow, End, Item, row_of}
use Rattle.dsl_tree.specs.Forest.{Forest, nil, sub}
use Rattle.dsl_tree.specs.Written.{at, written, or_row, and_row, sum_row, product_row, post_row, listed_tail, expr, next_part, next_name, next_index}
use Rattle.dsl_tree.specs.Views as Views
use Rattle.dsl_tree.specs.Views.{SuffixTree, FurtherTree, Named, At, grouped, with_suffixes, named_row, indexed_row, expr_tree, suffix_tree, further_tree}
use Rattle.dsl_tree.proofs.Tests.{is_whole, left_of, right_of}
use Rattle.dsl_tree.proofs.WholeForests.{whole_at, or_whole, and_whole, sum_whole, product_whole, post_whole}
use Rattle.dsl_tree.proofs.WrittenRows.{further_tail, suffix_tail, or_own, and_own, sum_own, product_own, post_own}
use Rattle.dsl_tree.proofs.Seen.{seen_implies, seen_or, seen_and, seen_not, seen_relation, seen_sum, seen_product, seen_minus, seen_dot, seen_index, seen_number, seen_physical, seen_chars, seen_truth, seen_it, seen_actor, seen_name, seen_enum_name, seen_group, seen_span, seen_listed, seen_range_call, seen_dot_suffix, seen_index_suffix, seen_further}

-- Values

-- what is read if a tree has no value
abbrev pub no_value : Expr
no_value = Expr.It (record { file = 0; line = 0; column = 0; token = 0 })

abbrev further_of : Place → Operator → Expr → Further
further_of place operator part = record { place = place; operator = operator; part = part }

abbrev mutual
  pub value_of : ExprTree → Expr
  value_of (Implies place left right) = TheViews.Implies place (value_of left) (value_of right)
  value_of (Or place operator left right) = row_value left TheViews.Or (further_of place operator (value_of right) ∷ [])
  value_of (And place operator left right) = row_value left TheViews.And (further_of place operator (value_of right) ∷ [])
  value_of (Not place part) = TheViews.Not place (value_of part)
  value_of (Relation place sign left right) = TheViews.Relation place sign (value_of left) (value_of right)
  value_of (Sum place operator left right) = row_value left TheViews.Sum (further_of place operator (value_of right) ∷ [])
  value_of (Product place operator left right) = row_value left TheViews.Product (further_of place operator (value_of right) ∷ [])
  value_of (Minus place part) = TheViews.Minus place (value_of part)
  value_of (Dot head name) = post_value head TheViews.Expr::Dot (Suffix.Suffix::Dot name ∷ [])
  value_of (Index place head index) = post_value head TheViews.Expr::Index (Suffix.Suffix::Index place (value_of index) ∷ [])
  value_of (Number number) = Expr.Number number
  value_of (Physical number unit) = Expr.Physical number unit
  value_of (Chars place text) = Expr.Chars place text
  value_of (Truth place value) = Expr.Truth place value
  value_of (It place) = Expr.It place
  value_of (Actor place) = Expr.Actor place
  value_of (Name name) = Expr.Name name
  value_of (EnumName of member) = Expr.EnumName of member
  value_of (Group place inner) = TheViews.Group place (value_of inner)
  value_of (Span place low high) = TheViews.Span place (value_of low) (value_of high)
  value_of (Listed place items) = TheViews.Listed place (values_of items)
  value_of (RangeCall place low high) = TheViews.RangeCall place (value_of low) (value_of high)
  value_of (Start first) = no_value

  -- a row of operators of a kind, and one of suffixes, with what stands after the tree
  pub row_value : ExprTree → (Expr → List Further → Expr) → List Further → Expr
  row_value (Start first) node rest = node (value_of first) rest
  row_value (Or place operator left right) node rest = row_value left node (further_of place operator (value_of right) ∷ rest)
  row_value (And place operator left right) node rest = row_value left node (further_of place operator (value_of right) ∷ rest)
  row_value (Sum place operator left right) node rest = row_value left node (further_of place operator (value_of right) ∷ rest)
  row_value (Product place operator left right) node rest = row_value left node (further_of place operator (value_of right) ∷ rest)
  row_value _ node rest = no_value

  pub post_value : ExprTree → (Expr → List Suffix → Expr) → List Suffix → Expr
  post_value (Start head) node rest = node (value_of head) rest
  post_value (Dot head name) node rest = post_value head node (Suffix.Suffix::Dot name ∷ rest)
  post_value (Index place head index) node rest = post_value head node (Suffix.Suffix::Index place (value_of index) ∷ rest)
  post_value _ node rest = no_value

  pub values_of : ExprRow → List Expr
  values_of End = []
  values_of (Item item others) = value_of item ∷ values_of others

abbrev further_value : FurtherTree → Further
further_value f = further_of f.place f.operator (value_of f.part)

abbrev pub suffix_value : SuffixTree → Suffix
suffix_value (Named name) = Suffix.Suffix::Dot name
suffix_value (At place index) = Suffix.Suffix::Index place (value_of index)

-- The tree of a tree's value

abbrev Join : Type 0
Join = Place → Operator → ExprTree → ExprTree → ExprTree

-- one more part before a row
more : (join : Join) (left right : ExprTree) (place : Place) (operator : Operator) (value : Expr) (rest : List Further)
    → expr_tree value ≡ right → grouped join left (map further_tree (further_of place operator value ∷ rest)) ≡ grouped join (join place operator left right) (map further_tree rest)
more join left right place operator value rest e =
    ap (λ (f : FurtherTree). grouped join (join f.place f.operator left f.part) (map further_tree rest)) (seen_further (further_of place operator value))
    ∙ ap (λ (t : ExprTree). grouped join (join place operator left t) (map further_tree rest)) e

pub index_seen : (place : Place) (index : ExprTree) (value : Expr) → expr_tree value ≡ index → suffix_tree (Suffix.Suffix::Index place value) ≡ At place index
index_seen place index value e = seen_index_suffix place value ∙ ap (At place) e

-- The two nodes with suffixes, each named for its last one.
record Post : Type 0 where
  node : Expr → List Suffix → Expr
  row : ExprTree → List SuffixTree → ExprTree
  is_seen : (head : Expr) (ss : List Suffix) → expr_tree (node head ss) ≡ row (with_suffixes (Start (expr_tree head)) (map suffix_tree ss)) (map suffix_tree ss)
  skips : (t : ExprTree) (s next : SuffixTree) (ss : List SuffixTree) → row t (s ∷ next ∷ ss) ≡ row t (next ∷ ss)

named_skips : (t : ExprTree) (s next : SuffixTree) (ss : List SuffixTree) → named_row t (s ∷ next ∷ ss) ≡ named_row t (next ∷ ss)
named_skips t s next ss = grind arith

indexed_skips : (t : ExprTree) (s next : SuffixTree) (ss : List SuffixTree) → indexed_row t (s ∷ next ∷ ss) ≡ indexed_row t (next ∷ ss)
indexed_skips t s next ss = grind arith

abbrev dot : Post
dot = record { node = TheViews.Expr::Dot; row = named_row; is_seen = seen_dot; skips = named_skips }

abbrev bracket : Post
bracket = record { node = TheViews.Expr::Index; row = indexed_row; is_seen = seen_index; skips = indexed_skips }

ruleset seen_leaves = (seen_number, seen_physical, seen_chars, seen_truth, seen_it, seen_actor, seen_name, seen_enum_name)

-- one more suffix before a row
one_before : (k : Post) (head : ExprTree) (s : Suffix) (t : SuffixTree) (next : SuffixTree) (ss : List SuffixTree) → suffix_tree s ≡ t
    → k.row (with_suffixes head (suffix_tree s ∷ next ∷ ss)) (suffix_tree s ∷ next ∷ ss) ≡ k.row (with_suffixes head (t ∷ next ∷ ss)) (next ∷ ss)
one_before k head s t next ss e =
    k.skips (with_suffixes head (suffix_tree s ∷ next ∷ ss)) (suffix_tree s) next ss ∙ ap (λ (x : SuffixTree). k.row (with_suffixes head (x ∷ next ∷ ss)) (next ∷ ss)) e

mutual
  pub tree_back : (t : ExprTree) → is_whole (written t) ≡ true → expr_tree (value_of t) ≡ t
  tree_back (Implies place left right) h = seen_implies place (value_of left) (value_of right)
      ∙ ap₂ (Implies place) (tree_back left (whole_at 1 left (written left) (left_of _ _ h))) (tree_back right (whole_at 1 right (written right) (left_of _ _ (left_of _ _ (right_of _ _ h)))))
  tree_back (Relation place sign left right) h = seen_relation place sign (value_of left) (value_of right)
      ∙ ap₂ (Relation place sign) (tree_back left (whole_at 5 left (written left) (left_of _ _ h))) (tree_back right (whole_at 5 right (written right) (left_of _ _ (left_of _ _ (right_of _ _ h)))))
  tree_back (Not place part) h = seen_not place (value_of part) ∙ ap (Not place) (tree_back part (whole_at 4 part (written part) (left_of _ _ h)))
  tree_back (Minus place part) h = seen_minus place (value_of part) ∙ ap (Minus place) (tree_back part (whole_at 8 part (written part) (left_of _ _ h)))
  tree_back (Or p o left right) h = or_tree left (next_part p o (at 2 right (written right)) nil) (further_of p o (value_of right) ∷ []) h
      ∙ more Or left right p o (value_of right) [] (tree_back right (whole_at 2 right (written right) (left_of _ _ (or_whole left _ h))))
  tree_back (And p o left right) h = and_tree left (next_part p o (at 3 right (written right)) nil) (further_of p o (value_of right) ∷ []) h
      ∙ more And left right p o (value_of right) [] (tree_back right (whole_at 3 right (written right) (left_of _ _ (and_whole left _ h))))
  tree_back (Sum p o left right) h = sum_tree left (next_part p o (at 6 right (written right)) nil) (further_of p o (value_of right) ∷ []) h
      ∙ more Sum left right p o (value_of right) [] (tree_back right (whole_at 6 right (written right) (left_of _ _ (sum_whole left _ h))))
  tree_back (Product p o left right) h = product_tree left (next_part p o (at 7 right (written right)) nil) (further_of p o (value_of right) ∷ []) h
      ∙ more Product left right p o (value_of right) [] (tree_back right (whole_at 7 right (written right) (left_of _ _ (product_whole left _ h))))
  tree_back (Dot head name) h = post_tree head (next_name name nil) dot (Suffix.Suffix::Dot name) [] h
      ∙ ap (λ (s : SuffixTree). named_row (with_suffixes head (s ∷ [])) (s ∷ [])) (seen_dot_suffix name)
  tree_back (Index place head index) h = post_tree head (next_index place (expr index) nil) bracket (Suffix.Suffix::Index place (value_of index)) [] h
      ∙ ap (λ (s : SuffixTree). indexed_row (with_suffixes head (s ∷ [])) (s ∷ []))
      (index_seen place index (value_of index) (tree_back index (whole_at 0 index (written index) (left_of _ _ (left_of _ _ (post_whole head _ h))))))
  tree_back (Group place inner) h = seen_group place (value_of inner) ∙ ap (Group place) (tree_back inner (whole_at 0 inner (written inner) (left_of _ _ h)))
  tree_back (Span place low high) h = seen_span place (value_of low) (value_of high)
      ∙ ap₂ (Span place) (tree_back low (whole_at 0 low (written low) (left_of _ _ h))) (tree_back high (whole_at 0 high (written high) (left_of _ _ (left_of _ _ (right_of _ _ h)))))
  tree_back (Listed place End) h = absurd (false≢true h)
  tree_back (Listed place (Item item others)) h = seen_listed place (value_of item ∷ values_of others)
      ∙ ap₂ (λ (x : ExprTree) (y : ExprRow). Listed place (Item x y)) (tree_back item (whole_at 0 item (written item) (left_of _ _ h))) (items_tree others (left_of _ _ (left_of _ _ (right_of _ _ h))))
  tree_back (RangeCall place low high) h = seen_range_call place (value_of low) (value_of high)
      ∙ ap₂ (RangeCall place) (tree_back low (whole_at 0 low (written low) (left_of _ _ h))) (tree_back high (whole_at 0 high (written high) (left_of _ _ (right_of _ _ h))))
  tree_back (Start first) h = absurd (false≢true h)
  tree_back _ h = search seen_leaves

  or_tree : (t : ExprTree) (f : Forest) (rest : List Further) → is_whole (or_row t f) ≡ true → expr_tree (row_value t TheViews.Or rest) ≡ grouped Or t (map further_tree rest)
  or_tree (Start first) f rest h = seen_or (value_of first) rest ∙ ap (λ (x : ExprTree). grouped Or (Start x) (map further_tree rest)) (tree_back first (whole_at 2 first (written first) (left_of _ _ h)))
  or_tree (Or p o left right) f rest h = or_tree left (next_part p o (at 2 right (written right)) f) (further_of p o (value_of right) ∷ rest) h
      ∙ more Or left right p o (value_of right) rest (tree_back right (whole_at 2 right (written right) (left_of _ _ (or_whole left _ h))))
  or_tree _ f rest h = absurd (false≢true h)

  and_tree : (t : ExprTree) (f : Forest) (rest : List Further) → is_whole (and_row t f) ≡ true → expr_tree (row_value t TheViews.And rest) ≡ grouped And t (map further_tree rest)
  and_tree (Start first) f rest h = seen_and (value_of first) rest ∙ ap (λ (x : ExprTree). grouped And (Start x) (map further_tree rest)) (tree_back first (whole_at 3 first (written first) (left_of _ _ h)))
  and_tree (And p o left right) f rest h = and_tree left (next_part p o (at 3 right (written right)) f) (further_of p o (value_of right) ∷ rest) h
      ∙ more And left right p o (value_of right) rest (tree_back right (whole_at 3 right (written right) (left_of _ _ (and_whole left _ h))))
  and_tree _ f rest h = absurd (false≢true h)

  sum_tree : (t : ExprTree) (f : Forest) (rest : List Further) → is_whole (sum_row t f) ≡ true → expr_tree (row_value t TheViews.Sum rest) ≡ grouped Sum t (map further_tree rest)
  sum_tree (Start first) f rest h = seen_sum (value_of first) rest ∙ ap (λ (x : ExprTree). grouped Sum (Start x) (map further_tree rest)) (tree_back first (whole_at 6 first (written first) (left_of _ _ h)))
  sum_tree (Sum p o left right) f rest h = sum_tree left (next_part p o (at 6 right (written right)) f) (further_of p o (value_of right) ∷ rest) h
      ∙ more Sum left right p o (value_of right) rest (tree_back right (whole_at 6 right (written right) (left_of _ _ (sum_whole left _ h))))
  sum_tree _ f rest h = absurd (false≢true h)

  product_tree : (t : ExprTree) (f : Forest) (rest : List Further) → is_whole (product_row t f) ≡ true → expr_tree (row_value t TheViews.Product rest) ≡ grouped Product t (map further_tree rest)
  product_tree (Start first) f rest h = seen_product (value_of first) rest
      ∙ ap (λ (x : ExprTree). grouped Product (Start x) (map further_tree rest)) (tree_back first (whole_at 7 first (written first) (left_of _ _ h)))
  product_tree (Product p o left right) f rest h = product_tree left (next_part p o (at 7 right (written right)) f) (further_of p o (value_of right) ∷ rest) h
      ∙ more Product left right p o (value_of right) rest (tree_back right (whole_at 7 right (written right) (left_of _ _ (product_whole left _ h))))
  product_tree _ f rest h = absurd (false≢true h)

  post_tree : (t : ExprTree) (f : Forest) (k : Post) (s : Suffix) (rest : List Suffix) → is_whole (post_row t f) ≡ true
      → expr_tree (post_value t k.node (s ∷ rest)) ≡ k.row (with_suffixes t (map suffix_tree (s ∷ rest))) (map suffix_tree (s ∷ rest))
  post_tree (Start head) f k s rest h = k.is_seen (value_of head) (s ∷ rest)
      ∙ ap (λ (x : ExprTree). k.row (with_suffixes (Start x) (map suffix_tree (s ∷ rest))) (map suffix_tree (s ∷ rest))) (tree_back head (whole_at 9 head (written head) (left_of _ _ h)))
  post_tree (Dot head name) f k s rest h = post_tree head (next_name name f) k (Suffix.Suffix::Dot name) (s ∷ rest) h
      ∙ one_before k head (Suffix.Suffix::Dot name) (Named name) (suffix_tree s) (map suffix_tree rest) (seen_dot_suffix name)
  post_tree (Index place head index) f k s rest h = post_tree head (next_index place (expr index) f) k (Suffix.Suffix::Index place (value_of index)) (s ∷ rest) h
      ∙ one_before k head (Suffix.Suffix::Index place (value_of index)) (At place index) (suffix_tree s) (map suffix_tree rest)
      (index_seen place index (value_of index) (tree_back index (whole_at 0 index (written index) (left_of _ _ (left_of _ _ (post_whole head _ h))))))
  post_tree _ f k s rest h = absurd (false≢true h)

  items_tree : (items : ExprRow) → is_whole (listed_tail items) ≡ true → row_of (map expr_tree (values_of items)) ≡ items
  items_tree End h = refl
  items_tree (Item item others) h = ap₂ Item (tree_back item (whole_at 0 item (written item) (left_of _ _ h))) (items_tree others (left_of _ _ (right_of _ _ h)))

pub expr_tree_back : (t : ExprTree) → is_whole (expr t) ≡ true → expr_tree (value_of t) ≡ t
expr_tree_back t h = tree_back t (whole_at 0 t (written t) h)

-- The value of a value's tree

abbrev OfExpr : Expr → Type 0
OfExpr e = is_whole (written (expr_tree e)) ≡ true → value_of (expr_tree e) ≡ e

abbrev pub suffix_whole : SuffixTree → Bool
suffix_whole (Named name) = true
suffix_whole (At place index) = is_whole (expr index)

abbrev pub OfSuffix : Suffix → Type 0
OfSuffix s = suffix_whole (suffix_tree s) ≡ true → suffix_value (suffix_tree s) ≡ s

abbrev OfFurther : Further → Type 0
OfFurther f = is_whole (written (further_tree f).part) ≡ true → further_value (further_tree f) ≡ f

abbrev pub Such : {A : Type 0} → (A → Type 0) → Type 0
Such {A = A} Of = (x : A) × Of x

further_back : (l : ℕ) (rest : List (Such OfFurther)) → is_whole (further_tail l (map further_tree (map (λ f. f.0) rest))) ≡ true
    → map further_value (map further_tree (map (λ f. f.0) rest)) ≡ map (λ f. f.0) rest
further_back l [] h = refl
further_back l (f ∷ rest) h = ap₂ ◌∷◌ (f.1 (whole_at l (further_tree f.0).part (written (further_tree f.0).part) (left_of _ _ h)))
    (further_back l rest (left_of _ _ (right_of (is_whole (at l (further_tree f.0).part (written (further_tree f.0).part))) _ h)))

pub suffix_parts : (t : SuffixTree) (ts : List SuffixTree) → is_whole (suffix_tail (t ∷ ts)) ≡ true → (suffix_whole t ≡ true) × (is_whole (suffix_tail ts) ≡ true)
suffix_parts (Named name) ts k = (refl, left_of _ true k)
suffix_parts (At place index) ts k = (left_of _ true (left_of (is_whole (expr index) && true) _ k), left_of _ true (right_of (is_whole (expr index) && true) _ k))

suffixes_back : (suffixes : List (Such OfSuffix)) → is_whole (suffix_tail (map suffix_tree (map (λ s. s.0) suffixes))) ≡ true
    → map suffix_value (map suffix_tree (map (λ s. s.0) suffixes)) ≡ map (λ s. s.0) suffixes
suffixes_back [] h = refl
suffixes_back (s ∷ rest) h = let both = suffix_parts (suffix_tree s.0) (map suffix_tree (map (λ s. s.0) rest)) h in ap₂ ◌∷◌ (s.1 both.0) (suffixes_back rest both.1)

items_back : (items : List (Such OfExpr)) → is_whole (listed_tail (row_of (map expr_tree (map (λ e. e.0) items)))) ≡ true → values_of (row_of (map expr_tree (map (λ e. e.0) items))) ≡ map (λ e. e.0) items
items_back [] h = refl
items_back (e ∷ rest) h = ap₂ ◌∷◌ (e.1 (whole_at 0 (expr_tree e.0) (written (expr_tree e.0)) (left_of _ _ h))) (items_back rest (left_of _ _ (right_of _ _ h)))

-- rows of operators, and of suffixes

read_row : (join : Join) (node : Expr → List Further → Expr)
    → ((place : Place) (operator : Operator) (left right : ExprTree) → value_of (join place operator left right) ≡ row_value left node (further_of place operator (value_of right) ∷ []))
    → ((place : Place) (operator : Operator) (left right : ExprTree) (rest : List Further) → row_value (join place operator left right) node rest ≡ row_value left node (further_of place operator (value_of right) ∷ rest))
    → (left : ExprTree) (next : FurtherTree) (rest : List FurtherTree) → value_of (grouped join left (next ∷ rest)) ≡ row_value left node (map further_value (next ∷ rest))
read_row join node one row left next [] = one next.place next.operator left next.part
read_row join node one row left next (other ∷ rest) =
    read_row join node one row (join next.place next.operator left next.part) other rest ∙ row next.place next.operator left next.part (map further_value (other ∷ rest))

abbrev ReadPost : Post → Type 0
ReadPost k = (head : ExprTree) (s : SuffixTree) (ss : List SuffixTree) → is_whole (written (k.row (with_suffixes head (s ∷ ss)) (s ∷ ss))) ≡ true
    → (value_of (k.row (with_suffixes head (s ∷ ss)) (s ∷ ss)) ≡ post_value head k.node (map suffix_value (s ∷ ss))) × (k.row (with_suffixes head (s ∷ ss)) (s ∷ ss) ≡ with_suffixes head (s ∷ ss))

named_value : ReadPost dot
named_value head (Named name) [] h = (refl, refl)
named_value head (At place index) [] h = absurd (false≢true h)
named_value head (Named name) (s ∷ rest) h = named_value (Dot head name) s rest h
named_value head (At place index) (s ∷ rest) h = named_value (Index place head index) s rest h

indexed_value : ReadPost bracket
indexed_value head (Named name) [] h = absurd (false≢true h)
indexed_value head (At place index) [] h = (refl, refl)
indexed_value head (Named name) (s ∷ rest) h = indexed_value (Dot head name) s rest h
indexed_value head (At place index) (s ∷ rest) h = indexed_value (Index place head index) s rest h

abbrev mapped_expr : Expr-F (Such OfExpr) (Such OfSuffix) (Such OfFurther) → Expr-F Expr Suffix Further
mapped_expr y = map-Expr (Such OfExpr) (Such OfSuffix) (Such OfFurther) Expr Suffix Further (λ e. e.0) (λ s. s.0) (λ f. f.0) y

abbrev mapped_suffix : Suffix-F (Such OfExpr) (Such OfSuffix) (Such OfFurther) → Suffix-F Expr Suffix Further
mapped_suffix y = map-Suffix (Such OfExpr) (Such OfSuffix) (Such OfFurther) Expr Suffix Further (λ e. e.0) (λ s. s.0) (λ f. f.0) y

abbrev mapped_further : Further-F (Such OfExpr) (Such OfSuffix) (Such OfFurther) → Further-F Expr Suffix Further
mapped_further y = map-Further (Such OfExpr) (Such OfSuffix) (Such OfFurther) Expr Suffix Further (λ e. e.0) (λ s. s.0) (λ f. f.0) y

abbrev step_of : Expr-F (Such OfExpr) (Such OfSuffix) (Such OfFurther) → ExprTree
step_of y = Views.expr_step (map-Expr Expr Suffix Further ExprTree SuffixTree FurtherTree expr_tree suffix_tree further_tree (mapped_expr y))

-- a part where it stands
part_back : (l : ℕ) (e : Such OfExpr) → is_whole (at l (expr_tree e.0) (written (expr_tree e.0))) ≡ true → value_of (expr_tree e.0) ≡ e.0
part_back l e h = e.1 (whole_at l (expr_tree e.0) (written (expr_tree e.0)) h)

ops_back : (l : ℕ) (join : Join) (node : Expr → List Further → Expr)
    → ((left : ExprTree) (next : FurtherTree) (rest : List FurtherTree) → value_of (grouped join left (next ∷ rest)) ≡ row_value left node (map further_value (next ∷ rest)))
    → ((first : ExprTree) (next : FurtherTree) (rest : List FurtherTree) → written (grouped join (Start first) (next ∷ rest)) ≡ sub (at l first (written first)) (sub (further_tail l (next ∷ rest)) nil))
    → (first : Such OfExpr) (next : Such OfFurther) (rest : List (Such OfFurther)) → is_whole (written (grouped join (Start (expr_tree first.0)) (map further_tree (map (λ f. f.0) (next ∷ rest))))) ≡ true
    → value_of (grouped join (Start (expr_tree first.0)) (map further_tree (map (λ f. f.0) (next ∷ rest)))) ≡ node first.0 (map (λ f. f.0) (next ∷ rest))
ops_back l join node read own first next rest h =
    let w = subst (λ (f : Forest). is_whole f ≡ true) (own (expr_tree first.0) (further_tree next.0) (map further_tree (map (λ f. f.0) rest))) h in
    read (Start (expr_tree first.0)) (further_tree next.0) (map further_tree (map (λ f. f.0) rest))
    ∙ ap₂ node (part_back l first (left_of _ _ w)) (further_back l (next ∷ rest) (left_of _ true (right_of _ _ w)))

post_back : (k : Post) → ReadPost k → (head : Such OfExpr) (next : Such OfSuffix) (rest : List (Such OfSuffix))
    → is_whole (written (k.row (with_suffixes (Start (expr_tree head.0)) (map suffix_tree (map (λ s. s.0) (next ∷ rest)))) (map suffix_tree (map (λ s. s.0) (next ∷ rest))))) ≡ true
    → value_of (k.row (with_suffixes (Start (expr_tree head.0)) (map suffix_tree (map (λ s. s.0) (next ∷ rest)))) (map suffix_tree (map (λ s. s.0) (next ∷ rest)))) ≡ k.node head.0 (map (λ s. s.0) (next ∷ rest))
post_back k read head next rest h =
    let both = read (Start (expr_tree head.0)) (suffix_tree next.0) (map suffix_tree (map (λ s. s.0) rest)) h in
    let w = subst (λ (f : Forest). is_whole f ≡ true) (ap written both.1 ∙ post_own (expr_tree head.0) (suffix_tree next.0) (map suffix_tree (map (λ s. s.0) rest))) h in
    both.0 ∙ ap₂ k.node (part_back 9 head (left_of _ _ w)) (suffixes_back (next ∷ rest) (left_of _ true (right_of _ _ w)))

expr_case : (y : Expr-F (Such OfExpr) (Such OfSuffix) (Such OfFurther)) → is_whole (written (step_of y)) ≡ true → value_of (step_of y) ≡ roll-Expr (mapped_expr y)
unfolding roll-Expr denote.Hole.Carrier.roll
expr_case (Expr-F.Implies place l r) h = ap₂ (TheViews.Implies place) (part_back 1 l (left_of _ _ h)) (part_back 1 r (left_of _ _ (left_of _ _ (right_of _ _ h))))
expr_case (Expr-F.Or first []) h = absurd (false≢true h)
expr_case (Expr-F.Or first (next ∷ rest)) h = ops_back 2 Or TheViews.Or (read_row Or TheViews.Or (λ p o l r. refl) (λ p o l r rest. refl)) or_own first next rest h
expr_case (Expr-F.And first []) h = absurd (false≢true h)
expr_case (Expr-F.And first (next ∷ rest)) h = ops_back 3 And TheViews.And (read_row And TheViews.And (λ p o l r. refl) (λ p o l r rest. refl)) and_own first next rest h
expr_case (Expr-F.Sum first []) h = absurd (false≢true h)
expr_case (Expr-F.Sum first (next ∷ rest)) h = ops_back 6 Sum TheViews.Sum (read_row Sum TheViews.Sum (λ p o l r. refl) (λ p o l r rest. refl)) sum_own first next rest h
expr_case (Expr-F.Product first []) h = absurd (false≢true h)
expr_case (Expr-F.Product first (next ∷ rest)) h = ops_back 7 Product TheViews.Product (read_row Product TheViews.Product (λ p o l r. refl) (λ p o l r rest. refl)) product_own first next rest h
expr_case (Expr-F.Not place part) h = ap (TheViews.Not place) (part_back 4 part (left_of _ _ h))
expr_case (Expr-F.Relation place sign l r) h = ap₂ (TheViews.Relation place sign) (part_back 5 l (left_of _ _ h)) (part_back 5 r (left_of _ _ (left_of _ _ (right_of _ _ h))))
expr_case (Expr-F.Minus place part) h = ap (TheViews.Minus place) (part_back 8 part (left_of _ _ h))
expr_case (Expr-F.Expr::Dot head []) h = absurd (false≢true h)
expr_case (Expr-F.Expr::Dot head (next ∷ rest)) h = post_back dot named_value head next rest h
expr_case (Expr-F.Expr::Index head []) h = absurd (false≢true h)
expr_case (Expr-F.Expr::Index head (next ∷ rest)) h = post_back bracket indexed_value head next rest h
expr_case (Expr-F.Group place inner) h = ap (TheViews.Group place) (part_back 0 inner (left_of _ _ h))
expr_case (Expr-F.Span place low high) h = ap₂ (TheViews.Span place) (part_back 0 low (left_of _ _ h)) (part_back 0 high (left_of _ _ (left_of _ _ (right_of _ _ h))))
expr_case (Expr-F.Listed place []) h = absurd (false≢true h)
expr_case (Expr-F.Listed place (item ∷ others)) h =
    ap (TheViews.Listed place) (ap₂ ◌∷◌ (part_back 0 item (left_of _ _ h)) (items_back others (left_of _ _ (left_of _ _ (right_of _ _ h)))))
expr_case (Expr-F.RangeCall place low high) h = ap₂ (TheViews.RangeCall place) (part_back 0 low (left_of _ _ h)) (part_back 0 high (left_of _ _ (right_of _ _ h)))
expr_case _ h = refl

expr_proof : (y : Expr-F (Such OfExpr) (Such OfSuffix) (Such OfFurther)) → OfExpr (roll-Expr (mapped_expr y))
expr_proof y h =
    let e : expr_tree (roll-Expr (mapped_expr y)) ≡ step_of y = fold-roll-Expr ExprTree SuffixTree FurtherTree Views.expr_step Views.suffix_step Views.further_step (mapped_expr y) in
    ap value_of e ∙ expr_case y (subst (λ (t : ExprTree). is_whole (written t) ≡ true) e h)

suffix_proof : (y : Suffix-F (Such OfExpr) (Such OfSuffix) (Such OfFurther)) → OfSuffix (roll-Suffix (mapped_suffix y))
unfolding roll-Suffix denote.Hole.Carrier.roll
suffix_proof (Suffix-F.Suffix::Dot name) h = ap suffix_value (seen_dot_suffix name)
suffix_proof (Suffix-F.Suffix::Index place index) h =
    let e = seen_index_suffix place index.0 in ap suffix_value e ∙ ap (Suffix.Suffix::Index place) (part_back 0 index (subst (λ (t : SuffixTree). suffix_whole t ≡ true) e h))

further_proof : (y : Further-F (Such OfExpr) (Such OfSuffix) (Such OfFurther)) → OfFurther (roll-Further (mapped_further y))
unfolding denote.Hole.Carrier.roll
further_proof y h =
    let e = fold-roll-Further ExprTree SuffixTree FurtherTree Views.expr_step Views.suffix_step Views.further_step (mapped_further y) in
    ap further_value e ∙ ap (further_of y.place y.operator) (y.part.1 (subst (λ (t : FurtherTree). is_whole (written t.part) ≡ true) e h))

pub expr_value : (e : Expr) → is_whole (written (expr_tree e)) ≡ true → value_of (expr_tree e) ≡ e
expr_value = ind-Expr OfExpr OfSuffix OfFurther
    (λ x y is. subst (λ v. OfExpr (roll-Expr v)) is (expr_proof y))
    (λ x y is. subst (λ v. OfSuffix (roll-Suffix v)) is (suffix_proof y))
    (λ x y is. subst (λ v. OfFurther (roll-Further v)) is (further_proof y))

pub suffix_back : (s : Suffix) → suffix_whole (suffix_tree s) ≡ true → suffix_value (suffix_tree s) ≡ s
suffix_back = ind-Suffix OfExpr OfSuffix OfFurther
    (λ x y is. subst (λ v. OfExpr (roll-Expr v)) is (expr_proof y))
    (λ x y is. subst (λ v. OfSuffix (roll-Suffix v)) is (suffix_proof y))
    (λ x y is. subst (λ v. OfFurther (roll-Further v)) is (further_proof y))

-- a whole expression where it stands
pub expr_back : (e : Expr) → is_whole (expr (expr_tree e)) ≡ true → value_of (expr_tree e) ≡ e
expr_back e h = expr_value e (whole_at 0 (expr_tree e) (written (expr_tree e)) h)
