-- The steps of the readers of expressions.
use Rattle.std.proofs.Common.{◌≡◌, ◌<◌, ◌≤◌, ℕ, List, [], ◌∷◌, length, refl, sym, ◌∙◌, ap, subst, Ok, Err, arith}
use Rattle.dsl_cursor.specs.Words.{Place, Stop, Token, TokenKind, MarkKind, mark_code, Part, Forest, nil, seen, bare, sub, first, starts, Starts, Stops, Parsed, at, Outcome, onto, take, after, read, Grows}
use Rattle.dsl_expressions.specs.Words.{Expr, Further, Operator, Suffix, operator_kind, RowLevel, OrRow, AndRow, SumRow, ProductRow, at_level, row_part, row_level, item_part, item_level, tail_part, operators, tail_of, suffixes_of, items_of, row_node, post_node}
use Rattle.dsl_tree.proofs.Sets.{both_ways}
use Rattle.dsl_cursor.proofs.{Lengths.take_shorter, Lengths.read_within, ReadParts.Took, RowSteps.optional_none, RowSteps.optional_some, RowSteps.pair, RowSteps.pair_first, RowSteps.pair_read, RowSteps.pair_second, ReadSteps.read_step, ReadSteps.read_parsed, RowSteps.read_so}
use Rattle.dsl_expressions.proofs.ExprForests.{level_lower, level_of_part, row_some, row_alone, post_none, post_some}

-- Expressions of a higher level

pub alone_expr : (e : Expr) (ts z : List Token) → read Part.Or ts ≡ Ok (at_level 1 e, z) → Stops (first Part.ImpliesTail) z → read Part.Expr ts ≡ Ok (at_level 0 e, z)
alone_expr e ts z h stop =
    read_step Part.Expr ts ∙ pair_read Part.Or Part.ImpliesTail (at_level 1 e) nil ts z z h (optional_none Part.ImpliesTail z refl refl stop)
    ∙ ap (λ (f : Forest). read_so z f) (sym (level_lower 0 e (level_of_part Part.Or 1 e ts z (read_parsed Part.Or ts (at_level 1 e) z h))))

pub alone_relation : (e : Expr) (ts z : List Token) → read Part.Sum ts ≡ Ok (at_level 5 e, z) → Stops (first Part.RelationTail) z → read Part.Relation ts ≡ Ok (at_level 4 e, z)
alone_relation e ts z h stop =
    read_step Part.Relation ts ∙ pair_read Part.Sum Part.RelationTail (at_level 5 e) nil ts z z h (optional_none Part.RelationTail z refl refl stop)
    ∙ ap (λ (f : Forest). read_so z f) (sym (level_lower 4 e (level_of_part Part.Sum 5 e ts z (read_parsed Part.Sum ts (at_level 5 e) z h))))

pub alone_postfix : (e : Expr) (ts z : List Token) → read Part.Primary ts ≡ Ok (at_level 9 e, z) → Stops (first Part.SuffixesTail) z → read Part.Postfix ts ≡ Ok (at_level 8 e, z)
alone_postfix e ts z h stop =
    read_step Part.Postfix ts ∙ pair_read Part.Primary Part.SuffixesTail (at_level 9 e) nil ts z z h (optional_none Part.SuffixesTail z refl refl stop)
    ∙ ap (λ (f : Forest). read_so z f) (sym (post_none e (level_of_part Part.Primary 9 e ts z (read_parsed Part.Primary ts (at_level 9 e) z h))))

pub lower_not : (e : Expr) (ts z : List Token) → read Part.Relation ts ≡ Ok (at_level 4 e, z) → at_level 3 e ≡ sub (at_level 4 e) nil
lower_not e ts z h = level_lower 3 e (level_of_part Part.Relation 4 e ts z (read_parsed Part.Relation ts (at_level 4 e) z h))

pub lower_minus : (e : Expr) (ts z : List Token) → read Part.Postfix ts ≡ Ok (at_level 8 e, z) → at_level 7 e ≡ sub (at_level 8 e) nil
lower_minus e ts z h = level_lower 7 e (level_of_part Part.Postfix 8 e ts z (read_parsed Part.Postfix ts (at_level 8 e) z h))

-- Rows of operators

pub step_row : (l : RowLevel) (ts : List Token) → read (row_part l) ts ≡ pair (item_part l) (tail_part l) ts
step_row OrRow ts = read_step Part.Or ts
step_row AndRow ts = read_step Part.And ts
step_row SumRow ts = read_step Part.Sum ts
step_row ProductRow ts = read_step Part.Product ts

pub no_operator : (l : RowLevel) (ts : List Token) → Stops (operators l) ts → read (tail_part l) ts ≡ Ok (nil, ts)
no_operator OrRow ts stop = optional_none Part.OrTail ts refl refl stop
no_operator AndRow ts stop = optional_none Part.AndTail ts refl refl stop
no_operator SumRow ts stop = optional_none Part.SumTail ts refl refl stop
no_operator ProductRow ts stop = optional_none Part.ProductTail ts refl refl stop

abbrev operator_row : RowLevel → List Token → Outcome
operator_row l ts = after (take (operators l) ts) (λ t m. onto (seen t.place t.kind) (pair (item_part l) (tail_part l) m))

some_operator : (l : RowLevel) (ts : List Token) → Starts (operators l) ts → read (tail_part l) ts ≡ operator_row l ts
some_operator OrRow ts start = optional_some Part.OrTail ts refl refl start
some_operator AndRow ts start = optional_some Part.AndTail ts refl refl start
some_operator SumRow ts start = optional_some Part.SumTail ts refl refl start
some_operator ProductRow ts start = optional_some Part.ProductTail ts refl refl start

pub alone_item : (l : RowLevel) (e : Expr) (ts z : List Token) → read (item_part l) ts ≡ Ok (at_level (item_level l) e, z) → Stops (operators l) z → read (row_part l) ts ≡ Ok (at_level (row_level l) e, z)
alone_item l e ts z h stop =
    step_row l ts ∙ pair_read (item_part l) (tail_part l) (at_level (item_level l) e) nil ts z z h (no_operator l z stop)
    ∙ ap (λ (f : Forest). read_so z f) (sym (row_alone l e (level_of_part (item_part l) (item_level l) e ts z (read_parsed (item_part l) ts (at_level (item_level l) e) z h))))

-- what an operator has of the row after it
taken_operator : (l : RowLevel) (place : Place) (operator : Operator) (ts m : List Token) → Starts (operators l) ts → take (operators l) ts ≡ Ok (at (operator_kind operator) place, m)
    → read (tail_part l) ts ≡ onto (seen place (operator_kind operator)) (pair (item_part l) (tail_part l) m)
taken_operator l place operator ts m start h = some_operator l ts start ∙ ap (λ (o : Took). after o (λ t m. onto (seen t.place t.kind) (pair (item_part l) (tail_part l) m))) h

pub tail_grows : (l : RowLevel) (place : Place) (operator : Operator) (part : Expr) (ts m z : List Token) → Starts (operators l) ts → take (operators l) ts ≡ Ok (at (operator_kind operator) place, m)
    → read (item_part l) m ≡ Ok (at_level (item_level l) part, z) → Grows (tail_part l) (tail_of (item_level l)) ts (record { place = place; operator = operator; part = part }) z
tail_grows l place operator part ts m z start h one = (
  let a : length m < length ts = take_shorter (operators l) ts (at (operator_kind operator) place) m h in
      let b : length z ≤ length m = read_within (item_part l) m (at_level (item_level l) part) z one in
      omega (arith, a, b),
  λ others end two. taken_operator l place operator ts m start h
      ∙ ap (onto (seen place (operator_kind operator))) (pair_read (item_part l) (tail_part l) (at_level (item_level l) part) (tail_of (item_level l) others) m z end one two),
  λ e two. taken_operator l place operator ts m start h ∙ ap (onto (seen place (operator_kind operator))) (pair_second (item_part l) (tail_part l) (at_level (item_level l) part) m z e one two),
)

pub operator_stops : (l : RowLevel) (place : Place) (operator : Operator) (ts m : List Token) (e : Stop ℕ) → Starts (operators l) ts → take (operators l) ts ≡ Ok (at (operator_kind operator) place, m)
    → read (item_part l) m ≡ Err e → read (tail_part l) ts ≡ Err e
operator_stops l place operator ts m e start h one = taken_operator l place operator ts m start h ∙ ap (onto (seen place (operator_kind operator))) (pair_first (item_part l) (tail_part l) m e one)

pub operators_end : (l : RowLevel) (ts m : List Token) → Stops (operators l) ts → m ≡ ts → read (tail_part l) ts ≡ Ok (nil, m)
operators_end l ts m stop same = no_operator l ts stop ∙ ap (λ (z : List Token). read_so z nil) (sym same)

-- tokens that begin a tail have some of it
begun_tail : (p : Part) (ts z : List Token) → Starts (first p) ts → read p ts ≡ Ok (nil, z) → {A : Type 0} → A
begun_tail p ts z start h =
    let parsed : Parsed p nil ts z = read_parsed p ts nil z h in
    both_ways (starts (first p) ts) start (subst (Stops (first p)) (sym parsed.spells) parsed.stop)

pub items_read : (l : RowLevel) (item : Expr) (rest : List Further) (ts m z : List Token) → read (item_part l) ts ≡ Ok (at_level (item_level l) item, m) → Starts (operators l) m
    → read (tail_part l) m ≡ Ok (tail_of (item_level l) rest, z) → read (row_part l) ts ≡ Ok (at_level (row_level l) (row_node l item rest), z)
items_read l item [] ts m z one start two = begun_tail (tail_part l) m z start two
items_read l item (next ∷ others) ts m z one start two =
    step_row l ts ∙ pair_read (item_part l) (tail_part l) (at_level (item_level l) item) (tail_of (item_level l) (next ∷ others)) ts m z one two
    ∙ ap (λ (f : Forest). read_so z f) (sym (row_some l item next others))

pub suffixes_read : (head : Expr) (rest : List Suffix) (ts m z : List Token) → read Part.Primary ts ≡ Ok (at_level 9 head, m) → Starts (first Part.SuffixesTail) m
    → read Part.SuffixesTail m ≡ Ok (suffixes_of rest, z) → read Part.Postfix ts ≡ Ok (at_level 8 (post_node head rest), z)
suffixes_read head [] ts m z one start two = begun_tail Part.SuffixesTail m z start two
suffixes_read head (s ∷ others) ts m z one start two =
    read_step Part.Postfix ts ∙ pair_read Part.Primary Part.SuffixesTail (at_level 9 head) (suffixes_of (s ∷ others)) ts m z one two
    ∙ ap (λ (f : Forest). read_so z f) (sym (post_some head s others))

-- Items of a list

abbrev comma : List ℕ
comma = mark_code MarkKind.Comma ∷ []

taken_comma : (place : Place) (ts m : List Token) → Starts comma ts → take comma ts ≡ Ok (at (TokenKind.Mark MarkKind.Comma) place, m) → read Part.ListedTail ts ≡ onto (bare (TokenKind.Mark MarkKind.Comma)) (pair Part.Expr Part.ListedTail m)
taken_comma place ts m start h = optional_some Part.ListedTail ts refl refl start ∙ ap (λ (o : Took). after o (λ t m. onto (bare t.kind) (pair Part.Expr Part.ListedTail m))) h

pub list_grows : (place : Place) (item : Expr) (ts m z : List Token) → Starts comma ts → take comma ts ≡ Ok (at (TokenKind.Mark MarkKind.Comma) place, m) → read Part.Expr m ≡ Ok (at_level 0 item, z) → Grows Part.ListedTail items_of ts item z
list_grows place item ts m z start h one = (
  let a : length m < length ts = take_shorter comma ts (at (TokenKind.Mark MarkKind.Comma) place) m h in
      let b : length z ≤ length m = read_within Part.Expr m (at_level 0 item) z one in
      omega (arith, a, b),
  λ others end two. taken_comma place ts m start h ∙ ap (onto (bare (TokenKind.Mark MarkKind.Comma))) (pair_read Part.Expr Part.ListedTail (at_level 0 item) (items_of others) m z end one two),
  λ e two. taken_comma place ts m start h ∙ ap (onto (bare (TokenKind.Mark MarkKind.Comma))) (pair_second Part.Expr Part.ListedTail (at_level 0 item) m z e one two),
)

pub list_stops : (place : Place) (ts m : List Token) (e : Stop ℕ) → Starts comma ts → take comma ts ≡ Ok (at (TokenKind.Mark MarkKind.Comma) place, m) → read Part.Expr m ≡ Err e → read Part.ListedTail ts ≡ Err e
list_stops place ts m e start h one = taken_comma place ts m start h ∙ ap (onto (bare (TokenKind.Mark MarkKind.Comma))) (pair_first Part.Expr Part.ListedTail m e one)

pub list_ends : (ts m : List Token) → Stops comma ts → m ≡ ts → read Part.ListedTail ts ≡ Ok (nil, m)
list_ends ts m stop same = optional_none Part.ListedTail ts refl refl stop ∙ ap (λ (z : List Token). read_so z nil) (sym same)
