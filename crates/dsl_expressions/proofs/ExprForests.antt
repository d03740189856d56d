-- What expressions are written as, by what their parts are.
use Rattle.std.proofs.Common.{◌≡◌, ℕ, zero, suc, ◌+◌, ◌-◌, ◌≤◌, List, [], ◌∷◌, length, map, Bool, true, false, cond, Some, refl, sym, ◌∙◌, ap, inl, inr, arith}
use Rattle.std.proofs.lemmas.Bool.{ltb-false, false≢true}
use Rattle.std.proofs.lemmas.Option.{none-some, same_Some}
use Rattle.std.specs.Prelude.{slice_get}
use Rattle.dsl_cursor.specs.Words.{nat_lt, Place, Ident, MarkKind, WordKind, Token, Part, Symbol, rules, Forest, nil, seen, sub, wrong, AnyRule, mark, ident, Whole, Parsed}
use Rattle.dsl_expressions.specs.Words.{Expr, Further, Suffix, RelationSign, ExprTree, FurtherTree, SuffixTree, grouped, with_suffixes, named_row, indexed_row, expr_tree, suffix_tree, further_tree, level, lifted, raised, written, operator_kind, sign_kind, next_part, mark_at, word_at, expr, listed_tail, RowLevel, at_level, row_level, item_level, tail_of, suffix_forest, suffix_of, suffixes_of, is_named, ends_named, items_of, row_node, post_node}
use Rattle.dsl_tree.specs.declared.expr.Expr.TheViews
use Rattle.dsl_tree.specs.ExprTree.{row_of}
use Rattle.dsl_tree.specs.Written.{at}
use Rattle.dsl_tree.proofs.{Seen.seen_implies, Seen.seen_or, Seen.seen_and, Seen.seen_not, Seen.seen_relation, Seen.seen_sum, Seen.seen_product, Seen.seen_minus, Seen.seen_dot, Seen.seen_index, Seen.seen_group, Seen.seen_span, Seen.seen_listed, Seen.seen_range_call, Seen.seen_further, Seen.seen_dot_suffix, Seen.seen_index_suffix, WrittenRows.at_own, WrittenRows.at_lower, WrittenRows.further_tail, WrittenRows.suffix_tail, WrittenRows.or_written, WrittenRows.and_written, WrittenRows.sum_written, WrittenRows.product_written, WrittenRows.post_written}

-- Levels

-- an expression of a higher level: nothing stands after it
pub level_lower : (n : ℕ) (e : Expr) → suc n ≤ level (expr_tree e) → at_level n e ≡ lifted n (at_level (suc n) e)
unfolding at_level
level_lower n e h = at_lower n (expr_tree e) (written (expr_tree e)) h

-- an expression at its own level
pub level_own : (n : ℕ) (e : Expr) (t : ExprTree) → expr_tree e ≡ t → level t ≡ n → at_level n e ≡ written t
unfolding at_level
level_own n e t is own = ap (λ (x : ExprTree). at n x (written x)) is ∙ at_own n t (written t) own

pub no_wrong : (rs : List (List Symbol)) (z : List Token) → AnyRule rs (λ r. Whole wrong r z) → ⊥
no_wrong [] z any = absurd any
no_wrong ([] ∷ rs) z (inl does) = absurd does
no_wrong ((s ∷ r) ∷ rs) z (inl does) = absurd does
no_wrong (r ∷ rs) z (inr any) = no_wrong rs z any

-- an expression that was read in a place for one of a level is of this level or a higher one
pub level_of_part : (p : Part) (n : ℕ) (e : Expr) (ts z : List Token) → Parsed p (at_level n e) ts z → n ≤ level (expr_tree e)
unfolding at_level
level_of_part p n e ts z parsed = go (nat_lt (level (expr_tree e)) n) refl parsed.whole
  where
    go : (b : Bool) → nat_lt (level (expr_tree e)) n ≡ b → AnyRule (rules p) (λ r. Whole (cond b wrong (raised (level (expr_tree e) - n) n (written (expr_tree e)))) r z) → n ≤ level (expr_tree e)
    go true is any = absurd (no_wrong (rules p) z any)
    go false is any = ltb-false (level (expr_tree e)) n is

-- Rows of operators

tail_forest : (n : ℕ) (items : List Further) → tail_of n items ≡ further_tail n (map further_tree items)
unfolding at_level
tail_forest n [] = refl
tail_forest n (f ∷ fs) =
    ap (λ (v : Forest). seen f.place (operator_kind f.operator) (sub (at n (expr_tree f.part) (written (expr_tree f.part))) (sub v nil))) (tail_forest n fs)
    ∙ ap (λ (x : FurtherTree). next_part x.place x.operator (at n x.part (written x.part)) (further_tail n (map further_tree fs))) (sym (seen_further f))

-- what a row is written as
abbrev pub row_forest : RowLevel → Expr → List Further → Forest
row_forest row first rest = sub (at_level (item_level row) first) (sub (tail_of (item_level row) rest) nil)

-- a row without operators is its first item
pub row_alone : (row : RowLevel) (first : Expr) → item_level row ≤ level (expr_tree first) → at_level (row_level row) first ≡ row_forest row first []
row_alone RowLevel.OrRow first h = level_lower 1 first h
row_alone RowLevel.AndRow first h = level_lower 2 first h
row_alone RowLevel.SumRow first h = level_lower 5 first h
row_alone RowLevel.ProductRow first h = level_lower 6 first h

from_tree : (n m : ℕ) (e first : Expr) (next : Further) (rest : List Further) (join : Place → Rattle.dsl_tree.specs.declared.expr.Operator.Operator → ExprTree → ExprTree → ExprTree)
    → expr_tree e ≡ grouped join (ExprTree.Start (expr_tree first)) (map further_tree (next ∷ rest))
    → ((f : ExprTree) (x : FurtherTree) (xs : List FurtherTree)
    → at n (grouped join (ExprTree.Start f) (x ∷ xs)) (written (grouped join (ExprTree.Start f) (x ∷ xs))) ≡ sub (at m f (written f)) (sub (further_tail m (x ∷ xs)) nil))
    → at_level n e ≡ sub (at_level m first) (sub (tail_of m (next ∷ rest)) nil)
unfolding at_level
from_tree n m e first next rest join is written_so =
    ap (λ (x : ExprTree). at n x (written x)) is
    ∙ (written_so (expr_tree first) (further_tree next) (map further_tree rest)
    ∙ ap (λ (v : Forest). sub (at m (expr_tree first) (written (expr_tree first))) (sub v nil)) (sym (tail_forest m (next ∷ rest))))

pub row_some : (row : RowLevel) (first : Expr) (next : Further) (rest : List Further) → at_level (row_level row) (row_node row first (next ∷ rest)) ≡ row_forest row first (next ∷ rest)
row_some RowLevel.OrRow first next rest = from_tree 1 2 (TheViews.Or first (next ∷ rest)) first next rest ExprTree.Or (seen_or first (next ∷ rest)) or_written
row_some RowLevel.AndRow first next rest = from_tree 2 3 (TheViews.And first (next ∷ rest)) first next rest ExprTree.And (seen_and first (next ∷ rest)) and_written
row_some RowLevel.SumRow first next rest = from_tree 5 6 (TheViews.Sum first (next ∷ rest)) first next rest ExprTree.Sum (seen_sum first (next ∷ rest)) sum_written
row_some RowLevel.ProductRow first next rest = from_tree 6 7 (TheViews.Product first (next ∷ rest)) first next rest ExprTree.Product (seen_product first (next ∷ rest)) product_written

-- Other nodes

pub implies_forest : (place : Place) (left right : Expr) → at_level 0 (TheViews.Implies place left right) ≡ sub (at_level 1 left) (sub (mark_at place MarkKind.Arrow (sub (at_level 1 right) nil)) nil)
unfolding at_level
implies_forest place left right = level_own 0 (TheViews.Implies place left right) (ExprTree.Implies place (expr_tree left) (expr_tree right)) (seen_implies place left right) refl

pub not_forest : (place : Place) (part : Expr) → at_level 3 (TheViews.Not place part) ≡ word_at place WordKind.NotWord (sub (at_level 4 part) nil)
unfolding at_level
not_forest place part = level_own 3 (TheViews.Not place part) (ExprTree.Not place (expr_tree part)) (seen_not place part) refl

pub relation_forest : (place : Place) (sign : RelationSign) (left right : Expr) → at_level 4 (TheViews.Relation place sign left right) ≡ sub (at_level 5 left) (sub (seen place (sign_kind sign) (sub (at_level 5 right) nil)) nil)
unfolding at_level
relation_forest place sign left right = level_own 4 (TheViews.Relation place sign left right) (ExprTree.Relation place sign (expr_tree left) (expr_tree right)) (seen_relation place sign left right) refl

pub minus_forest : (place : Place) (part : Expr) → at_level 7 (TheViews.Minus place part) ≡ mark_at place MarkKind.Dash (sub (at_level 8 part) nil)
unfolding at_level
minus_forest place part = level_own 7 (TheViews.Minus place part) (ExprTree.Minus place (expr_tree part)) (seen_minus place part) refl

pub group_forest : (place : Place) (inner : Expr) → at_level 9 (TheViews.Group place inner) ≡ mark_at place MarkKind.OpenRound (sub (at_level 0 inner) (mark MarkKind.CloseRound nil))
unfolding at_level
group_forest place inner = level_own 9 (TheViews.Group place inner) (ExprTree.Group place (expr_tree inner)) (seen_group place inner) refl

pub span_forest : (place : Place) (low high : Expr)
    → at_level 9 (TheViews.Span place low high) ≡ mark_at place MarkKind.OpenSquare (sub (at_level 0 low) (sub (mark MarkKind.TwoDots (sub (at_level 0 high) (mark MarkKind.CloseSquare nil))) nil))
unfolding at_level
span_forest place low high = level_own 9 (TheViews.Span place low high) (ExprTree.Span place (expr_tree low) (expr_tree high)) (seen_span place low high) refl

pub range_forest : (place : Place) (low high : Expr)
    → at_level 9 (TheViews.RangeCall place low high) ≡ word_at place WordKind.RangeWord (mark MarkKind.OpenRound (sub (at_level 0 low) (mark MarkKind.Comma (sub (at_level 0 high) (mark MarkKind.CloseRound nil)))))
unfolding at_level
range_forest place low high = level_own 9 (TheViews.RangeCall place low high) (ExprTree.RangeCall place (expr_tree low) (expr_tree high)) (seen_range_call place low high) refl

items_forest : (items : List Expr) → items_of items ≡ listed_tail (row_of (map expr_tree items))
unfolding at_level
items_forest [] = refl
items_forest (e ∷ es) = ap (λ (v : Forest). mark MarkKind.Comma (sub (expr (expr_tree e)) (sub v nil))) (items_forest es)

pub listed_forest : (place : Place) (first : Expr) (others : List Expr)
    → at_level 9 (TheViews.Listed place (first ∷ others)) ≡ mark_at place MarkKind.OpenSquare (sub (at_level 0 first) (sub (sub (items_of others) (mark MarkKind.CloseSquare nil)) nil))
unfolding at_level
listed_forest place first others =
    level_own 9 (TheViews.Listed place (first ∷ others)) (ExprTree.Listed place (row_of (map expr_tree (first ∷ others)))) (seen_listed place (first ∷ others)) refl
    ∙ ap (λ (v : Forest). mark_at place MarkKind.OpenSquare (sub (expr (expr_tree first)) (sub (sub v (mark MarkKind.CloseSquare nil)) nil))) (sym (items_forest others))

-- Suffixes

suffix_more : (x : SuffixTree) (xs : List SuffixTree) → suffix_tail (x ∷ xs) ≡ sub (suffix_forest x) (sub (suffix_tail xs) nil)
suffix_more (SuffixTree.Named name) xs = refl
suffix_more (SuffixTree.At place index) xs = refl

pub suffixes_forest : (suffixes : List Suffix) → suffixes_of suffixes ≡ suffix_tail (map suffix_tree suffixes)
unfolding suffix_of
suffixes_forest [] = refl
suffixes_forest (s ∷ rest) = ap (λ (v : Forest). sub (suffix_forest (suffix_tree s)) (sub v nil)) (suffixes_forest rest) ∙ sym (suffix_more (suffix_tree s) (map suffix_tree rest))

named_so : (t : ExprTree) (xs : List SuffixTree) → ends_named xs ≡ true → named_row t xs ≡ t
named_so t [] h = absurd (false≢true h)
named_so t (SuffixTree.Named name ∷ []) h = refl
named_so t (SuffixTree.At place index ∷ []) h = absurd (false≢true h)
named_so t (SuffixTree.Named name ∷ (y ∷ rest)) h = named_so t (y ∷ rest) h
named_so t (SuffixTree.At place index ∷ (y ∷ rest)) h = named_so t (y ∷ rest) h

indexed_so : (t : ExprTree) (x : SuffixTree) (xs : List SuffixTree) → ends_named (x ∷ xs) ≡ false → indexed_row t (x ∷ xs) ≡ t
indexed_so t (SuffixTree.Named name) [] h = absurd (false≢true (sym h))
indexed_so t (SuffixTree.At place index) [] h = refl
indexed_so t (SuffixTree.Named name) (y ∷ rest) h = indexed_so t y rest h
indexed_so t (SuffixTree.At place index) (y ∷ rest) h = indexed_so t y rest h

-- what an operand with suffixes is written as
abbrev pub post_forest : Expr → List Suffix → Forest
post_forest head suffixes = sub (at_level 9 head) (sub (suffixes_of suffixes) nil)

post_of : (e head : Expr) (s : Suffix) (rest : List Suffix) → expr_tree e ≡ with_suffixes (ExprTree.Start (expr_tree head)) (map suffix_tree (s ∷ rest)) → at_level 8 e ≡ post_forest head (s ∷ rest)
unfolding at_level
post_of e head s rest is =
    ap (λ (x : ExprTree). at 8 x (written x)) is
    ∙ (post_written (expr_tree head) (suffix_tree s) (map suffix_tree rest)
    ∙ ap (λ (v : Forest). sub (at 9 (expr_tree head) (written (expr_tree head))) (sub v nil)) (sym (suffixes_forest (s ∷ rest))))

pub post_none : (head : Expr) → 9 ≤ level (expr_tree head) → at_level 8 head ≡ post_forest head []
post_none head h = level_lower 8 head h

pub post_some : (head : Expr) (s : Suffix) (rest : List Suffix) → at_level 8 (post_node head (s ∷ rest)) ≡ post_forest head (s ∷ rest)
post_some head s rest = go (ends_named (map suffix_tree (s ∷ rest))) refl
  where
    go : (b : Bool) → ends_named (map suffix_tree (s ∷ rest)) ≡ b → at_level 8 (cond b (TheViews.Expr::Dot head (s ∷ rest)) (TheViews.Expr::Index head (s ∷ rest))) ≡ post_forest head (s ∷ rest)
    go true h =
        post_of (TheViews.Expr::Dot head (s ∷ rest)) head s rest
        (seen_dot head (s ∷ rest) ∙ named_so (with_suffixes (ExprTree.Start (expr_tree head)) (map suffix_tree (s ∷ rest))) (map suffix_tree (s ∷ rest)) h)
    go false h =
        post_of (TheViews.Expr::Index head (s ∷ rest)) head s rest
        (seen_index head (s ∷ rest) ∙ indexed_so (with_suffixes (ExprTree.Start (expr_tree head)) (map suffix_tree (s ∷ rest))) (suffix_tree s) (map suffix_tree rest) h)

last_is : (xs : List Suffix) (i : ℕ) (s : Suffix) → i + 1 ≡ length xs → slice_get xs i ≡ Some s → is_named (suffix_tree s) ≡ ends_named (map suffix_tree xs)
last_is [] i s n get = absurd (omega (arith, n))
last_is (x ∷ []) zero s n get = ap (λ y. is_named (suffix_tree y)) (sym (same_Some x s get))
last_is (x ∷ []) (suc i) s n get = absurd (omega (arith, n))
last_is (x ∷ (y ∷ rest)) zero s n get = absurd (omega (arith, n))
last_is (x ∷ (y ∷ rest)) (suc i) s n get = last_is (y ∷ rest) i s (omega (arith, n)) get

pub last_named : (xs : List Suffix) (s : Suffix) → slice_get xs (length xs - 1) ≡ Some s → is_named (suffix_tree s) ≡ ends_named (map suffix_tree xs)
last_named [] s get = absurd (none-some s get)
last_named (x ∷ xs) s get = last_is (x ∷ xs) (length (x ∷ xs) - 1) s (omega arith) get

pub dot_forest : (name : Ident) → suffix_of (Suffix.Suffix::Dot name) ≡ mark MarkKind.Dot (ident name nil)
unfolding suffix_of
dot_forest name = ap suffix_forest (seen_dot_suffix name)

pub index_forest : (place : Place) (index : Expr) → suffix_of (Suffix.Suffix::Index place index) ≡ mark_at place MarkKind.OpenSquare (sub (at_level 0 index) (mark MarkKind.CloseSquare nil))
unfolding suffix_of at_level
index_forest place index = ap suffix_forest (seen_index_suffix place index)

pub ruleset suffix_forests = (dot_forest, index_forest)
