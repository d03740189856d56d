-- What is written of an expression in its place, and of rows.
use Rattle.std.proofs.Common.{◌==◌, ◌||◌, ◌≡◌, ◌⊎◌, inl, inr, ℕ, zero, suc, ◌-◌, ◌+◌, ◌<◌, ◌≤◌, length, drop, get_or, List, [], ◌∷◌, Bool, true, false, cond, map, refl, sym, ◌∙◌, ap, subst, Option, Some, None}
use Rattle.std.proofs.lemmas.List.{drop_more}
use Rattle.std.proofs.Math.ListN.{drop_of_length-le}
use Rattle.dsl_spell.specs.Writing.{nat_lt, Place, TokenKind, MarkKind, Expr, Operator, Suffix, Further, ExprTree, row_of, FurtherTree, SuffixTree, Named, At, grouped, with_suffixes, named_row, indexed_row, expr_tree, suffix_tree, further_tree, path_row, head_tree, argument_tree, phase_tree, Forest, nil, sub, wrong, operator_kind, level, raised, at, next_part, next_name, next_index, written, listed, listed_tail, expr, mark, path, Ident, PathHead, Argument, Phase, ArgumentTree, dotted_names, named_tail, arguments, arguments_tail, invocation_arguments, phase, block_phases, phases_tail, BasePart, base, bases_tail, unit_tail, unit_bases, Writer, put, wrote, Whole, Writes, Fills, Joins, Steps, further_tail, suffix_tail, label_of, argument_of, comma_row}
use Rattle.dsl_tree.proofs.{Seen.seen_or, Seen.seen_and, Seen.seen_sum, Seen.seen_product, Seen.seen_dot, Seen.seen_index, Seen.seen_further, WrittenRows.or_own, WrittenRows.and_own, WrittenRows.sum_own, WrittenRows.product_own, WrittenRows.post_own, WrittenRows.path_of_row, WrittenRows.front_of_row}
use Rattle.dsl_tree.specs.PhaseTree.{row_of as phase_row}
use Rattle.dsl_tree.specs.declared.expr.Expr.TheViews
use Rattle.dsl_tree.proofs.WrittenRows as Rows
use Rattle.dsl_tree.specs.Written as Written

-- Rows, item by item

-- when what is left is written, all is
abbrev pub Left : {X : Type 0} → (List X → Forest) → List X → ℕ → Writer → Writer → Type 0
Left {X} tail all i start w = (v : Writer) → Writes w (tail (drop i all)) v → Writes start (tail all) v

pub one_more : {X : Type 0} (tail : List X → Forest) (all : List X) (i : ℕ) (x : X) (start w u : Writer)
    → Left tail all i start w → Steps tail x w u → i < length all → x ≡ get_or all i x → Left tail all (i + 1) start u
one_more tail all i x start w u left step lt is v h =
    left v (subst (λ r. Writes w (tail r) v) (sym (drop_more all i x lt ∙ ap (λ y. y ∷ drop (i + 1) all) (sym is))) (step (drop (i + 1) all) v h))

pub all_left : {X : Type 0} (tail : List X → Forest) (all : List X) (i : ℕ) (start w v : Writer)
    → Left tail all i start w → length all ≤ i → Writes w (tail []) v → Writes start (tail all) v
all_left tail all i start w v left le h = left v (subst (λ r. Writes w (tail r) v) (sym (drop_of_length-le all le)) h)

pub all_done : {X : Type 0} (tail : List X → Forest) (all : List X) (i : ℕ) (start w : Writer)
    → Left tail all i start w → length all ≤ i → tail [] ≡ nil → Writes start (tail all) w
all_done tail all i start w left le e = all_left tail all i start w w left le (subst (λ f. Writes w f w) (sym e) (λ whole. refl))

-- Tails by the program's own items

abbrev pub furthers : ℕ → List Further → Forest
furthers l rest = further_tail l (map further_tree rest)

abbrev pub suffixes : List Suffix → Forest
suffixes ss = suffix_tail (map suffix_tree ss)

abbrev pub items : List Expr → Forest
items es = listed_tail (row_of (map expr_tree es))

-- Levels: raising adds no token

lifted_writes : (w v : Writer) (f : Forest) (b : Bool) → Writes w f v → Writes w (cond b (sub f nil) (sub f (sub nil nil))) v
lifted_writes w v f true h whole = h whole.0
lifted_writes w v f false h whole = h whole.0

raised_writes : (w v : Writer) (d l : ℕ) (f : Forest) → Writes w f v → Writes w (raised d l f) v
raised_writes w v zero l f h = h
raised_writes w v (suc d) l f h = lifted_writes w v (raised d (suc l) f) ((l == 3) || (l == 7)) (raised_writes w v d (suc l) f h)

placed : (w v : Writer) (b : Bool) (f : Forest) → Writes w f v → Writes w (cond b wrong f) v
placed w v true f h whole = absurd whole
placed w v false f h whole = h whole

pub fills : (w v : Writer) (t : ExprTree) → Writes w (written t) v → Fills w t v
fills w v t h l = placed w v (nat_lt (level t) l) (raised (level t - l) l (written t)) (raised_writes w v (level t - l) l (written t) h)

-- Operators

same_further : (l : ℕ) (rest : List FurtherTree) → Rows.further_tail l rest ≡ further_tail l rest
same_further l [] = refl
same_further l (f ∷ rest) = ap (λ r. next_part f.place f.operator (at l f.part (written f.part)) r) (same_further l rest)

joined : (l : ℕ) (f : FurtherTree) (w m u : Writer) → m ≡ put w f.place (operator_kind f.operator) → Fills m f.part u → Steps (further_tail l) f w u
joined l f w m u e h rest v next whole =
    next whole.1.0 ∙ ap (λ s. wrote s (further_tail l rest)) (h l whole.0 ∙ ap (λ s. wrote s (at l f.part (written f.part))) e)

pub further_steps : (l : ℕ) (f : Further) (k : TokenKind) (w m u : Writer) → k ≡ operator_kind f.operator → m ≡ put w f.place k → Fills m (expr_tree f.part) u
    → Steps (furthers l) f w u
further_steps l f k w m u is e h rest v next =
    subst (λ g. Writes w (further_tail l (g ∷ map further_tree rest)) v) (sym (seen_further f))
    (joined l (record { place = f.place; operator = f.operator; part = expr_tree f.part }) w m u (e ∙ ap (put w f.place) is) h (map further_tree rest) v next)

row_writes : (n : ℕ) (join : Place → Operator → ExprTree → ExprTree → ExprTree)
    → ((first : ExprTree) (next : FurtherTree) (rest : List FurtherTree) → written (grouped join (ExprTree.Start first) (next ∷ rest)) ≡ sub (at n first (written first)) (sub (Rows.further_tail n (next ∷ rest)) nil))
    → (w m v : Writer) (first : ExprTree) (rest : List FurtherTree) → Fills w first m → Joins m rest v → Writes w (written (grouped join (ExprTree.Start first) rest)) v
row_writes n join own w m v first [] h h' = λ whole. absurd whole
row_writes n join own w m v first (next ∷ rest) h h' =
    subst (λ f. Writes w f v) (sym (own first next rest ∙ ap (λ r. sub (at n first (written first)) (sub r nil)) (same_further n (next ∷ rest))))
    (λ whole. h' n whole.1.0 ∙ ap (λ s. wrote s (further_tail n (next ∷ rest))) (h n whole.0))

-- Suffixes

pub same_suffixes : (ss : List SuffixTree) → Rows.suffix_tail ss ≡ suffix_tail ss
same_suffixes [] = refl
same_suffixes (Named name ∷ rest) = ap (next_name name) (same_suffixes rest)
same_suffixes (At place index ∷ rest) = ap (next_index place (expr index)) (same_suffixes rest)

post_writes : (w m v : Writer) (head : ExprTree) (ss : List SuffixTree) → Fills w head m → Writes m (suffix_tail ss) v → Writes w (written (with_suffixes (ExprTree.Start head) ss)) v
post_writes w m v head [] h h' = λ whole. absurd whole
post_writes w m v head (s ∷ ss) h h' =
    subst (λ f. Writes w f v) (sym (post_own head s ss ∙ ap (λ r. sub (at 9 head (written head)) (sub r nil)) (same_suffixes (s ∷ ss))))
    (λ whole. h' whole.1.0 ∙ ap (λ u. wrote u (suffix_tail (s ∷ ss))) (h 9 whole.0))

named_writes : (w v : Writer) (t : ExprTree) (ss : List SuffixTree) → Writes w (written t) v → Writes w (written (named_row t ss)) v
named_writes w v t [] h = λ whole. absurd whole
named_writes w v t (Named name ∷ []) h = h
named_writes w v t (At place index ∷ []) h = λ whole. absurd whole
named_writes w v t (Named name ∷ (s ∷ rest)) h = named_writes w v t (s ∷ rest) h
named_writes w v t (At place index ∷ (s ∷ rest)) h = named_writes w v t (s ∷ rest) h

indexed_writes : (w v : Writer) (t : ExprTree) (ss : List SuffixTree) → Writes w (written t) v → Writes w (written (indexed_row t ss)) v
indexed_writes w v t [] h = λ whole. absurd whole
indexed_writes w v t (Named name ∷ []) h = λ whole. absurd whole
indexed_writes w v t (At place index ∷ []) h = h
indexed_writes w v t (Named name ∷ (s ∷ rest)) h = indexed_writes w v t (s ∷ rest) h
indexed_writes w v t (At place index ∷ (s ∷ rest)) h = indexed_writes w v t (s ∷ rest) h

-- Lists

pub item_steps : (e : Expr) (w m u : Writer) → m ≡ put w w.at (TokenKind.Mark MarkKind.Comma) → Fills m (expr_tree e) u
    → Steps items e w u
item_steps e w m u is h rest v next whole =
    next whole.1.0 ∙ ap (λ s. wrote s (items rest)) (h 0 whole.0 ∙ ap (λ s. wrote s (expr (expr_tree e))) is)

pub listed_writes : (w m u v : Writer) (es : List Expr) (first : Expr) (others : List Expr) → es ≡ first ∷ others → Fills w (expr_tree first) m
    → Writes m (items others) u → v ≡ put u u.at (TokenKind.Mark MarkKind.CloseSquare) → Writes w (listed (row_of (map expr_tree es))) v
listed_writes w m u v es first others is h h' e =
    subst (λ xs. Writes w (listed (row_of (map expr_tree xs))) v) (sym is)
    (λ whole. e ∙ ap (λ s. put s s.at (TokenKind.Mark MarkKind.CloseSquare)) (h' whole.1.0.0 ∙ ap (λ s. wrote s (items others)) (h 0 whole.0)))

-- Nodes with a row

pub operators_write : (w m v : Writer) (e first : Expr) (rest : List Further)
    → (e ≡ TheViews.Or first rest) ⊎ ((e ≡ TheViews.And first rest) ⊎ ((e ≡ TheViews.Sum first rest) ⊎ (e ≡ TheViews.Product first rest)))
    → Fills w (expr_tree first) m → Joins m (map further_tree rest) v → Writes w (written (expr_tree e)) v
operators_write w m v e first rest (inl is) h h' = subst (λ t. Writes w (written t) v) (sym (ap expr_tree is ∙ seen_or first rest)) (row_writes 2 ExprTree.Or or_own w m v (expr_tree first) (map further_tree rest) h h')
operators_write w m v e first rest (inr (inl is)) h h' = subst (λ t. Writes w (written t) v) (sym (ap expr_tree is ∙ seen_and first rest)) (row_writes 3 ExprTree.And and_own w m v (expr_tree first) (map further_tree rest) h h')
operators_write w m v e first rest (inr (inr (inl is))) h h' = subst (λ t. Writes w (written t) v) (sym (ap expr_tree is ∙ seen_sum first rest)) (row_writes 6 ExprTree.Sum sum_own w m v (expr_tree first) (map further_tree rest) h h')
operators_write w m v e first rest (inr (inr (inr is))) h h' = subst (λ t. Writes w (written t) v) (sym (ap expr_tree is ∙ seen_product first rest)) (row_writes 7 ExprTree.Product product_own w m v (expr_tree first) (map further_tree rest) h h')

pub suffixes_write : (w m v : Writer) (e head : Expr) (ss : List Suffix) → (e ≡ TheViews.Expr::Dot head ss) ⊎ (e ≡ TheViews.Expr::Index head ss)
    → Fills w (expr_tree head) m → Writes m (suffixes ss) v → Writes w (written (expr_tree e)) v
suffixes_write w m v e head ss (inl is) h h' = subst (λ t. Writes w (written t) v) (sym (ap expr_tree is ∙ seen_dot head ss)) (named_writes w v (with_suffixes (ExprTree.Start (expr_tree head)) (map suffix_tree ss)) (map suffix_tree ss) (post_writes w m v (expr_tree head) (map suffix_tree ss) h h'))
suffixes_write w m v e head ss (inr is) h h' = subst (λ t. Writes w (written t) v) (sym (ap expr_tree is ∙ seen_index head ss)) (indexed_writes w v (with_suffixes (ExprTree.Start (expr_tree head)) (map suffix_tree ss)) (map suffix_tree ss) (post_writes w m v (expr_tree head) (map suffix_tree ss) h h'))

-- Paths

head_writes : (w m v : Writer) (head : PathHead) (rest : Forest) → Writes w (Written.path_row (head_tree head) nil) m → Writes m rest v → Writes w (Written.path_row (head_tree head) rest) v
head_writes w m v (PathHead.Name name) rest h h' whole = h' whole.0 ∙ ap (λ s. wrote s rest) (h (tt, tt))
head_writes w m v (PathHead.It place) rest h h' whole = h' whole.0 ∙ ap (λ s. wrote s rest) (h (tt, tt))
head_writes w m v (PathHead.Actor place) rest h h' whole = h' whole.0 ∙ ap (λ s. wrote s rest) (h (tt, tt))

path_is : (head : PathHead) (ss : List SuffixTree) → path (path_row (head_tree head) ss) ≡ Written.path_row (head_tree head) (suffix_tail ss)
path_is (PathHead.Name name) [] = refl
path_is (PathHead.It place) [] = refl
path_is (PathHead.Actor place) [] = refl
path_is head (s ∷ ss) =
    path_of_row (ExprTree.Start (head_tree head)) s ss
    ∙ (front_of_row (ExprTree.Start (head_tree head)) (s ∷ ss) ∙ ap (Written.path_row (head_tree head)) (same_suffixes (s ∷ ss)))

pub path_writes : (w m v : Writer) (head : PathHead) (ss : List Suffix) → Writes w (Written.path_row (head_tree head) nil) m → Writes m (suffixes ss) v
    → Writes w (path (path_row (head_tree head) (map suffix_tree ss))) v
path_writes w m v head ss h h' = subst (λ f. Writes w f v) (sym (path_is head (map suffix_tree ss))) (head_writes w m v head (suffixes ss) h h')

-- Names

pub dotted_steps : (name : Ident) (w m u : Writer) → m ≡ put w w.at (TokenKind.Mark MarkKind.Dot) → u ≡ put m name.place (TokenKind.Name name.text) → Steps dotted_names name w u
dotted_steps name w m u e e' rest v next whole =
    next whole.0 ∙ ap (λ s. wrote s (dotted_names rest)) (e' ∙ ap (λ s. put s name.place (TokenKind.Name name.text)) e)

-- Arguments

-- what stands after an argument without a name
abbrev pub others_of : List Argument → Forest
others_of args = arguments_tail (map argument_tree args) (arguments (map argument_tree args))

one_named : (u v : Writer) (name : Option Ident) (value : ExprTree) (rest : List ArgumentTree)
    → Writes u (mark MarkKind.Comma (sub (arguments (record { name = name; value = value } ∷ rest)) nil)) v → Writes u (named_tail (record { name = name; value = value } ∷ rest)) v
one_named u v None value rest h whole = absurd whole
one_named u v (Some name) value rest h whole = h (whole, tt)

named_arguments : (u v : Writer) (rest : List Argument) → Writes u (others_of rest) v → Writes u (named_tail (map argument_tree rest)) v
named_arguments u v [] h = h
named_arguments u v (a ∷ rest) h = one_named u v a.name (expr_tree a.value) (map argument_tree rest) h

first_writes : (w m v : Writer) (name : Option Ident) (value : Expr) (rest : List Argument)
    → Writes w (sub (label_of name) (sub (expr (expr_tree value)) nil)) m → Writes m (others_of rest) v
    → Writes w (arguments (record { name = name; value = expr_tree value } ∷ map argument_tree rest)) v
first_writes w m v None value rest h h' whole = h' whole.1.0 ∙ ap (λ s. wrote s (others_of rest)) (h (tt, (whole.0, tt)))
first_writes w m v (Some name) value rest h h' whole =
    named_arguments m v rest h' whole.1.0 ∙ ap (λ s. wrote s (named_tail (map argument_tree rest))) (h (tt, (whole.0, tt)))

pub argument_steps : (a : Argument) (w m u : Writer) → m ≡ put w w.at (TokenKind.Mark MarkKind.Comma) → Writes m (argument_of a) u → Steps others_of a w u
argument_steps a w m u e h rest v next whole =
    first_writes m u v a.name a.value rest h next whole.0 ∙ ap (λ s. wrote s (arguments (map argument_tree (a ∷ rest)))) e

pub arguments_write : (w m v : Writer) (args : List Argument) (first : Argument) (others : List Argument) → args ≡ first ∷ others
    → Writes w (argument_of first) m → Writes m (others_of others) v → Writes w (invocation_arguments (map argument_tree args)) v
arguments_write w m v args first others is h h' =
    subst (λ xs. Writes w (invocation_arguments (map argument_tree xs)) v) (sym is) (λ whole. first_writes w m v first.name first.value others h h' whole.0)

-- Phases

abbrev pub phases_of : List Phase → Forest
phases_of ps = phases_tail (phase_row (map phase_tree ps))

pub phase_steps : (p : Phase) (w u : Writer) → Writes w (phase (phase_tree p)) u → Steps phases_of p w u
phase_steps p w u h rest v next whole = next whole.1.0 ∙ ap (λ s. wrote s (phases_of rest)) (h whole.0)

pub block_writes : (w u v : Writer) (ps : List Phase) → Writes w (phases_of ps) u → v ≡ put u u.at TokenKind.Dedent → Writes w (block_phases (phase_row (map phase_tree ps))) v
block_writes w u v [] h e whole = absurd whole
block_writes w u v (p ∷ ps) h e whole = e ∙ ap (λ s. put s s.at TokenKind.Dedent) (h whole)

-- Bases of units

whole_parts : (bs : List BasePart) (end : Forest) → Whole (unit_tail bs end) → Whole (bases_tail bs) × Whole end
whole_parts [] end h = (tt, h)
whole_parts (b ∷ bs) end h = let parts = whole_parts bs end h.0.1.0 in ((h.0.0, (parts.0, tt)), parts.1)

wrote_parts : (w : Writer) (bs : List BasePart) (end : Forest) → wrote w (unit_tail bs end) ≡ wrote (wrote w (bases_tail bs)) end
wrote_parts w [] end = refl
wrote_parts w (b ∷ bs) end = wrote_parts (wrote (put w w.at (TokenKind.Mark MarkKind.Comma)) (base b)) bs end

pub bases_write : (w u v : Writer) (bases : List BasePart) (end : Forest) → Writes w (comma_row base bases_tail bases) u → Writes u end v → Writes w (unit_bases bases end) v
bases_write w u v [] end h h' whole = absurd whole
bases_write w u v (b ∷ bs) end h h' whole =
    let parts = whole_parts bs end whole.1.0 in
    h' parts.1 ∙ (ap (λ s. wrote s end) (h (whole.0, (parts.0, tt))) ∙ sym (wrote_parts (wrote w (base b)) bs end))
