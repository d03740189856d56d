-- The tokens of expressions with rows in them, in terms of their rows.
use Rattle.std.proofs.Common.{◌≡◌, ℕ, ◌+◌, ◌<◌, List, [], ◌∷◌, ◌++◌, ◌∙◌, length, take, map, get_or, refl, ap, sym, arith}
use Rattle.std.proofs.lemmas.List.{take_more}
use Rattle.expansion_laws.specs.Counts.{total}
use Rattle.dsl_tree.specs.osc_base.declared.fault.Place.{Place}
use Rattle.dsl_tree.specs.declared.expr.Operator.{Operator}
use Rattle.dsl_tree.specs.declared.expr.Expr.{Expr}
use Rattle.dsl_tree.specs.declared.expr.Suffix.{Suffix}
use Rattle.dsl_tree.specs.declared.expr.Further.{Further}
use Rattle.dsl_tree.specs.declared.expr.Expr.TheFolds.{fold-roll-Further}
use Rattle.dsl_tree.specs.ExprTree.{ExprTree, row_of}
use Rattle.dsl_tree.specs.Views.{SuffixTree, FurtherTree, Named, At, grouped, with_suffixes, named_row, indexed_row, expr_tree, suffix_tree, further_tree, expr_step, suffix_step, further_step}
use Rattle.expansion_laws.specs.composition.Tokens.{tokens, item_tokens}
use Rattle.scene_texts.specs.Capped.{capped}
use Rattle.scene_texts.specs.RowTokens.{further_count, suffix_tokens, suffix_count, item_count}
use Rattle.scene_texts.proofs.Caps.{capped_twice}

pub further_seen : (f : Further) → (further_tree f).part ≡ expr_tree f.part
unfolding denote.Hole.Carrier.roll
further_seen f = ap (λ (t : FurtherTree). t.part) (fold-roll-Further ExprTree SuffixTree FurtherTree expr_step suffix_step further_step (record { place = f.place; operator = f.operator; part = f.part }))

pub grouped_tokens : (join : Place → Operator → ExprTree → ExprTree → ExprTree)
    → ((p : Place) (o : Operator) (a b : ExprTree) → tokens (join p o a b) ≡ tokens a + 1 + tokens b)
    → (left : ExprTree) (rest : List Further) → tokens (grouped join left (map further_tree rest)) ≡ tokens left + total further_count rest
grouped_tokens join counts left [] = omega arith
grouped_tokens join counts left (f ∷ rest) =
    let t : FurtherTree = further_tree f in
    let more : tokens (grouped join (join t.place t.operator left t.part) (map further_tree rest)) ≡ tokens (join t.place t.operator left t.part) + total further_count rest =
    grouped_tokens join counts (join t.place t.operator left t.part) rest in
    let one : tokens (join t.place t.operator left t.part) ≡ tokens left + 1 + tokens t.part = counts t.place t.operator left t.part in
    more ∙ omega (arith, one)

suffix_then : (head : ExprTree) (s : SuffixTree) (rest : List SuffixTree) (n : ℕ) → ((t : ExprTree) → tokens (with_suffixes t rest) ≡ tokens t + n)
    → tokens (with_suffixes head (s ∷ rest)) ≡ tokens head + (suffix_tokens s + n)
suffix_then head (Named name) rest n more = more (ExprTree.Dot head name) ∙ omega arith
suffix_then head (At place index) rest n more = more (ExprTree.Index place head index) ∙ omega arith

pub suffixed_tokens : (head : ExprTree) (suffixes : List Suffix) → tokens (with_suffixes head (map suffix_tree suffixes)) ≡ tokens head + total suffix_count suffixes
suffixed_tokens head [] = omega arith
suffixed_tokens head (s ∷ rest) = suffix_then head (suffix_tree s) (map suffix_tree rest) (total suffix_count rest) (λ t. suffixed_tokens t rest)

named_tokens : (tree : ExprTree) (suffixes : List SuffixTree) → tokens (named_row tree suffixes) ≡ tokens tree
named_tokens tree [] = refl
named_tokens tree (Named name ∷ []) = refl
named_tokens tree (At place index ∷ []) = refl
named_tokens tree (first ∷ next ∷ rest) = named_tokens tree (next ∷ rest)

indexed_tokens : (tree : ExprTree) (suffixes : List SuffixTree) → tokens (indexed_row tree suffixes) ≡ tokens tree
indexed_tokens tree [] = refl
indexed_tokens tree (Named name ∷ []) = refl
indexed_tokens tree (At place index ∷ []) = refl
indexed_tokens tree (first ∷ next ∷ rest) = indexed_tokens tree (next ∷ rest)

pub dot_tokens : (head : ExprTree) (suffixes : List Suffix)
    → tokens (named_row (with_suffixes (ExprTree.Start head) (map suffix_tree suffixes)) (map suffix_tree suffixes)) ≡ tokens head + total suffix_count suffixes
dot_tokens head suffixes = named_tokens (with_suffixes (ExprTree.Start head) (map suffix_tree suffixes)) (map suffix_tree suffixes) ∙ suffixed_tokens (ExprTree.Start head) suffixes

pub index_tokens : (head : ExprTree) (suffixes : List Suffix)
    → tokens (indexed_row (with_suffixes (ExprTree.Start head) (map suffix_tree suffixes)) (map suffix_tree suffixes)) ≡ tokens head + total suffix_count suffixes
index_tokens head suffixes = indexed_tokens (with_suffixes (ExprTree.Start head) (map suffix_tree suffixes)) (map suffix_tree suffixes) ∙ suffixed_tokens (ExprTree.Start head) suffixes

pub row_tokens : (items : List Expr) → item_tokens (row_of (map expr_tree items)) ≡ total item_count items
row_tokens [] = refl
row_tokens (item ∷ others) = ap (λ n. tokens (expr_tree item) + 1 + n) (row_tokens others)

total_append : {X : Type 0} (f : X → ℕ) (xs ys : List X) → total f (xs ++ ys) ≡ total f xs + total f ys
total_append f [] ys = omega arith
total_append f (x ∷ xs) ys = let more = total_append f xs ys in omega arith

-- a sum, one item further
pub total_more : {X : Type 0} (f : X → ℕ) (xs : List X) (i : ℕ) (x : X) (done one now : ℕ)
    → done ≡ capped (total f (take i xs)) → one ≡ capped (f x) → now ≡ capped (done + one) → i < length xs → x ≡ get_or xs i x
    → now ≡ capped (total f (take (i + 1) xs))
total_more {X = X} f xs i x done one now before own both lt is =
    both ∙ ap (λ n. capped (n + one)) before ∙ ap (λ n. capped (capped (total f (take i xs)) + n)) own
    ∙ capped_twice (total f (take i xs)) (f x) ∙ ap capped (omega (arith, longer))
  where
    longer : total f (take (i + 1) xs) ≡ total f (take i xs) + (f x + 0)
    longer = ap (total f) (take_more xs i x lt) ∙ total_append f (take i xs) (get_or xs i x ∷ []) ∙ ap (λ (y : X). total f (take i xs) + (f y + 0)) (sym is)
