-- Numbers, strings and names weigh no more in a tree than in the tokens that it is spelled by.
use Rattle.std.proofs.Common.{◌≡◌, ℕ, zero, suc, ◌+◌, ◌-◌, ◌≤◌, Bool, true, false, cond, List, [], ◌∷◌, ap, arith}
use Rattle.std.specs.Prelude.{nat_lt, ◌==◌, ◌||◌}
use Rattle.std.proofs.lemmas.Bool.{false≢true}
use Rattle.name_scope.specs.dsl_tree.declared.token.Token.{Token}
use Rattle.name_scope.specs.dsl_tree.declared.token.TokenKind.{TokenKind}
use Rattle.name_scope.specs.dsl_tree.ExprTree.{ExprTree, Implies, Or, And, Not, Relation, Sum, Product, Minus, Dot, Index, Number, Physical, Chars, Truth, It, Actor, Name, EnumName, Group, Span, Listed, RangeCall, Start, ExprRow, End, Item}
use Rattle.name_scope.specs.dsl_tree.Forest.{Forest, nil, seen, bare, sub, wrong, Spells}
use Rattle.name_scope.specs.dsl_tree.Written.{level, lifted, raised, at, next_part, next_name, next_index, written, or_row, and_row, sum_row, product_row, post_row, listed_tail, expr, path_row, path_front, path}
use Rattle.name_scope.proofs.of_dsl_tree.Tests.{is_whole, left_of, right_of}
use Rattle.name_scope.proofs.of_dsl_tree.WholeForests.{whole_at, or_whole, and_whole, sum_whole, product_whole, post_whole, front_whole}

-- what a number, a string and a name weigh
pub record Measure : Type 0 where
  pub number : ℕ → ℕ → ℕ
  pub string : List ℕ → ℕ
  pub name : List ℕ → ℕ

abbrev pub weight : Measure → TokenKind → ℕ
weight m (TokenKind.Number digits places) = m.number digits places
weight m (TokenKind.Physical digits places unit) = m.number digits places
weight m (TokenKind.Chars text) = m.string text
weight m (TokenKind.Name text) = m.name text
weight m _ = 0

-- the weight of tokens, and of a forest
abbrev pub total : Measure → List Token → ℕ
total m [] = 0
total m (t ∷ ts) = weight m t.kind + total m ts

abbrev pub count : Measure → Forest → ℕ
count m nil = 0
count m (seen place kind f) = weight m kind + count m f
count m (bare kind f) = weight m kind + count m f
count m (sub part f) = count m part + count m f
count m wrong = 0

-- a forest weighs what its tokens weigh
pub spelled_total : (m : Measure) (f : Forest) (tokens rest : List Token) → Spells f tokens rest → total m tokens ≡ count m f + total m rest
spelled_total m nil tokens rest s = let e = ap (total m) s in omega (arith, e)
spelled_total m (seen place kind f) [] rest s = absurd s
spelled_total m (seen place kind f) (t ∷ ts) rest (p, k, s) = let e = spelled_total m f ts rest s in let same = ap (weight m) k in omega (arith, e, same)
spelled_total m (bare kind f) [] rest s = absurd s
spelled_total m (bare kind f) (t ∷ ts) rest (k, s) = let e = spelled_total m f ts rest s in let same = ap (weight m) k in omega (arith, e, same)
spelled_total m (sub part f) tokens rest (middle, s, s') = let a = spelled_total m part tokens middle s in let b = spelled_total m f middle rest s' in omega (arith, a, b)
spelled_total m wrong tokens rest s = absurd s

-- the weight of the numbers and strings in an expression
abbrev mutual
  pub leaves : Measure → ExprTree → ℕ
  leaves m (Implies place left right) = leaves m left + leaves m right
  leaves m (Or place operator left right) = leaves m left + leaves m right
  leaves m (And place operator left right) = leaves m left + leaves m right
  leaves m (Not place part) = leaves m part
  leaves m (Relation place sign left right) = leaves m left + leaves m right
  leaves m (Sum place operator left right) = leaves m left + leaves m right
  leaves m (Product place operator left right) = leaves m left + leaves m right
  leaves m (Minus place part) = leaves m part
  leaves m (Dot head name) = leaves m head
  leaves m (Index place head index) = leaves m head + leaves m index
  leaves m (Number number) = m.number number.digits number.places
  leaves m (Physical number unit) = m.number number.digits number.places
  leaves m (Chars place text) = m.string text
  leaves m (Truth place value) = 0
  leaves m (It place) = 0
  leaves m (Actor place) = 0
  leaves m (Name name) = 0
  leaves m (EnumName of member) = 0
  leaves m (Group place inner) = leaves m inner
  leaves m (Span place low high) = leaves m low + leaves m high
  leaves m (Listed place items) = row_leaves m items
  leaves m (RangeCall place low high) = leaves m low + leaves m high
  leaves m (Start first) = leaves m first

  pub row_leaves : Measure → ExprRow → ℕ
  row_leaves m End = 0
  row_leaves m (Item item others) = leaves m item + row_leaves m others

module _ (m : Measure) where
  lifted_count : (l : ℕ) (f : Forest) → count m f ≤ count m (lifted l f)
  lifted_count l f = go ((l == 3) || (l == 7))
    where
      go : (b : Bool) → count m f ≤ count m (cond b (sub f nil) (sub f (sub nil nil)))
      go true = omega arith
      go false = omega arith

  raised_count : (d l : ℕ) (f : Forest) → count m f ≤ count m (raised d l f)
  raised_count zero l f = omega arith
  raised_count (suc d) l f = let a = raised_count d (suc l) f in let b = lifted_count l (raised d (suc l) f) in omega (arith, a, b)

  at_count : (l : ℕ) (t : ExprTree) (f : Forest) → is_whole (at l t f) ≡ true → count m f ≤ count m (at l t f)
  at_count l t f = go (nat_lt (level t) l)
    where
      go : (b : Bool) → is_whole (cond b wrong (raised (level t - l) l f)) ≡ true → count m f ≤ count m (cond b wrong (raised (level t - l) l f))
      go true h = absurd (false≢true h)
      go false h = raised_count (level t - l) l f

  -- a part of a level
  part : (l : ℕ) (t : ExprTree) (f : Forest) → (is_whole f ≡ true → leaves m t ≤ count m f) → is_whole (at l t f) ≡ true → leaves m t ≤ count m (at l t f)
  part l t f below h = let a = below (whole_at l t f h) in let b = at_count l t f h in omega (arith, a, b)

  mutual
    pub written_count : (t : ExprTree) → is_whole (written t) ≡ true → leaves m t ≤ count m (written t)
    written_count (Implies place left right) h =
        let a = part 1 left (written left) (written_count left) (left_of _ _ h) in
        let b = part 1 right (written right) (written_count right) (left_of _ _ (left_of _ _ (right_of _ _ h))) in
        omega (arith, a, b)
    written_count (Not place operand) h = let a = part 4 operand (written operand) (written_count operand) (left_of _ _ h) in omega (arith, a)
    written_count (Relation place sign left right) h =
        let a = part 5 left (written left) (written_count left) (left_of _ _ h) in
        let b = part 5 right (written right) (written_count right) (left_of _ _ (left_of _ _ (right_of _ _ h))) in
        omega (arith, a, b)
    written_count (Minus place operand) h = let a = part 8 operand (written operand) (written_count operand) (left_of _ _ h) in omega (arith, a)
    written_count (Or place operator left right) h =
        let a = or_count left (next_part place operator (at 2 right (written right)) nil) h in
        let b = part 2 right (written right) (written_count right) (left_of _ _ (or_whole left (next_part place operator (at 2 right (written right)) nil) h)) in
        omega (arith, a, b)
    written_count (And place operator left right) h =
        let a = and_count left (next_part place operator (at 3 right (written right)) nil) h in
        let b = part 3 right (written right) (written_count right) (left_of _ _ (and_whole left (next_part place operator (at 3 right (written right)) nil) h)) in
        omega (arith, a, b)
    written_count (Sum place operator left right) h =
        let a = sum_count left (next_part place operator (at 6 right (written right)) nil) h in
        let b = part 6 right (written right) (written_count right) (left_of _ _ (sum_whole left (next_part place operator (at 6 right (written right)) nil) h)) in
        omega (arith, a, b)
    written_count (Product place operator left right) h =
        let a = product_count left (next_part place operator (at 7 right (written right)) nil) h in
        let b = part 7 right (written right) (written_count right) (left_of _ _ (product_whole left (next_part place operator (at 7 right (written right)) nil) h)) in
        omega (arith, a, b)
    written_count (Dot head name) h = let a = post_count head (next_name name nil) h in omega (arith, a)
    written_count (Index place head index) h =
        let a = post_count head (next_index place (at 0 index (written index)) nil) h in
        let b = part 0 index (written index) (written_count index) (left_of _ _ (left_of _ _ (post_whole head (next_index place (at 0 index (written index)) nil) h))) in
        omega (arith, a, b)
    written_count (Number number) h = omega arith
    written_count (Physical number unit) h = omega arith
    written_count (Chars place text) h = omega arith
    written_count (Truth place value) h = omega arith
    written_count (It place) h = omega arith
    written_count (Actor place) h = omega arith
    written_count (Name name) h = omega arith
    written_count (EnumName of member) h = omega arith
    written_count (Group place inner) h = let a = part 0 inner (written inner) (written_count inner) (left_of _ _ h) in omega (arith, a)
    written_count (Span place low high) h =
        let a = part 0 low (written low) (written_count low) (left_of _ _ h) in
        let b = part 0 high (written high) (written_count high) (left_of _ _ (left_of _ _ (right_of _ _ h))) in
        omega (arith, a, b)
    written_count (Listed place End) h = absurd (false≢true h)
    written_count (Listed place (Item item others)) h =
        let a = part 0 item (written item) (written_count item) (left_of _ _ h) in
        let b = items_count others (left_of _ _ (left_of _ _ (right_of _ _ h))) in
        omega (arith, a, b)
    written_count (RangeCall place low high) h =
        let a = part 0 low (written low) (written_count low) (left_of _ _ h) in
        let b = part 0 high (written high) (written_count high) (left_of _ _ (right_of _ _ h)) in
        omega (arith, a, b)
    written_count (Start first) h = absurd (false≢true h)

    or_count : (t : ExprTree) (rest : Forest) → is_whole (or_row t rest) ≡ true → leaves m t + count m rest ≤ count m (or_row t rest)
    or_count (Start first) rest h = let a = part 2 first (written first) (written_count first) (left_of _ _ h) in omega (arith, a)
    or_count (Or place operator left right) rest h =
        let a = or_count left (next_part place operator (at 2 right (written right)) rest) h in
        let b = part 2 right (written right) (written_count right) (left_of _ _ (or_whole left (next_part place operator (at 2 right (written right)) rest) h)) in
        omega (arith, a, b)
    or_count _ rest h = absurd (false≢true h)

    and_count : (t : ExprTree) (rest : Forest) → is_whole (and_row t rest) ≡ true → leaves m t + count m rest ≤ count m (and_row t rest)
    and_count (Start first) rest h = let a = part 3 first (written first) (written_count first) (left_of _ _ h) in omega (arith, a)
    and_count (And place operator left right) rest h =
        let a = and_count left (next_part place operator (at 3 right (written right)) rest) h in
        let b = part 3 right (written right) (written_count right) (left_of _ _ (and_whole left (next_part place operator (at 3 right (written right)) rest) h)) in
        omega (arith, a, b)
    and_count _ rest h = absurd (false≢true h)

    sum_count : (t : ExprTree) (rest : Forest) → is_whole (sum_row t rest) ≡ true → leaves m t + count m rest ≤ count m (sum_row t rest)
    sum_count (Start first) rest h = let a = part 6 first (written first) (written_count first) (left_of _ _ h) in omega (arith, a)
    sum_count (Sum place operator left right) rest h =
        let a = sum_count left (next_part place operator (at 6 right (written right)) rest) h in
        let b = part 6 right (written right) (written_count right) (left_of _ _ (sum_whole left (next_part place operator (at 6 right (written right)) rest) h)) in
        omega (arith, a, b)
    sum_count _ rest h = absurd (false≢true h)

    product_count : (t : ExprTree) (rest : Forest) → is_whole (product_row t rest) ≡ true → leaves m t + count m rest ≤ count m (product_row t rest)
    product_count (Start first) rest h = let a = part 7 first (written first) (written_count first) (left_of _ _ h) in omega (arith, a)
    product_count (Product place operator left right) rest h =
        let a = product_count left (next_part place operator (at 7 right (written right)) rest) h in
        let b = part 7 right (written right) (written_count right) (left_of _ _ (product_whole left (next_part place operator (at 7 right (written right)) rest) h)) in
        omega (arith, a, b)
    product_count _ rest h = absurd (false≢true h)

    post_count : (t : ExprTree) (rest : Forest) → is_whole (post_row t rest) ≡ true → leaves m t + count m rest ≤ count m (post_row t rest)
    post_count (Start head) rest h = let a = part 9 head (written head) (written_count head) (left_of _ _ h) in omega (arith, a)
    post_count (Dot head name) rest h = let a = post_count head (next_name name rest) h in omega (arith, a)
    post_count (Index place head index) rest h =
        let a = post_count head (next_index place (at 0 index (written index)) rest) h in
        let b = part 0 index (written index) (written_count index) (left_of _ _ (left_of _ _ (post_whole head (next_index place (at 0 index (written index)) rest) h))) in
        omega (arith, a, b)
    post_count _ rest h = absurd (false≢true h)

    items_count : (items : ExprRow) → is_whole (listed_tail items) ≡ true → row_leaves m items ≤ count m (listed_tail items)
    items_count End h = omega arith
    items_count (Item item others) h =
        let a = part 0 item (written item) (written_count item) (left_of _ _ h) in
        let b = items_count others (left_of _ _ (right_of _ _ h)) in
        omega (arith, a, b)

  -- a whole expression, where it stands
  pub expr_count : (t : ExprTree) → is_whole (expr t) ≡ true → leaves m t ≤ count m (expr t)
  expr_count t h = part 0 t (written t) (written_count t) h

  head_count : (t : ExprTree) (rest : Forest) → is_whole (path_row t rest) ≡ true → leaves m t + count m rest ≤ count m (path_row t rest)
  head_count (Name name) rest h = omega arith
  head_count (It place) rest h = omega arith
  head_count (Actor place) rest h = omega arith
  head_count _ rest h = absurd (false≢true h)

  front_count : (t : ExprTree) (rest : Forest) → is_whole (path_front t rest) ≡ true → leaves m t + count m rest ≤ count m (path_front t rest)
  front_count (Start head) rest h = head_count head rest h
  front_count (Dot head name) rest h = let a = front_count head (next_name name rest) h in omega (arith, a)
  front_count (Index place head index) rest h =
      let a = front_count head (next_index place (expr index) rest) h in
      let b = expr_count index (left_of _ _ (left_of _ _ (front_whole head (next_index place (expr index) rest) h))) in
      omega (arith, a, b)
  front_count _ rest h = absurd (false≢true h)

  -- a path
  pub path_count : (t : ExprTree) → is_whole (path t) ≡ true → leaves m t ≤ count m (path t)
  path_count (Dot head name) h = let a = front_count head (next_name name nil) h in omega (arith, a)
  path_count (Index place head index) h =
      let a = front_count head (next_index place (expr index) nil) h in
      let b = expr_count index (left_of _ _ (left_of _ _ (front_whole head (next_index place (expr index) nil) h))) in
      omega (arith, a, b)
  path_count (Name name) h = omega arith
  path_count (It place) h = omega arith
  path_count (Actor place) h = omega arith
  path_count _ h = absurd (false≢true h)
