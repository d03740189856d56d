-- The lines of a tree and the rules of its sums: no tree's are a prefix of another's. Lines are twice as many as cuts, and one.
use Rattle.std.proofs.Common.{◌≡◌, refl, sym, ap, ap₂, ◌∙◌, ℕ, ◌+◌, ◌*◌, List, [], ◌∷◌, ◌++◌, length, ℤ, arith, append_assoc, length-append}
use Rattle.box_eval.specs.declared.cut.Cut.{Cut}
use Rattle.box_eval.specs.declared.cut.Side.{Side}
use Rattle.box_eval.specs.declared.cut.Side.TheVariants.{Low, High}
use Rattle.record_trees.specs.declared.record.Line.{Line}
use Rattle.record_trees.specs.declared.record.Line.TheVariants as L
use Rattle.box_eval.specs.Box.{cut_at}
use Rattle.linear_sums.specs.declared.pick.Pick.{Pick}
use Rattle.record_trees.specs.Record.{Leaf, close, added, unknown, Tree, branch, leaf, line_at, cut_line, leaf_line, leaf_picks, lines_of, picks_of, FullLine, full, full_lines, cuts_of}

pub length_lines : (tree : Tree) → length (lines_of tree) ≡ 2 * cuts_of tree + 1
length_lines (branch cut first second) = omega (arith, length-append (lines_of first) (lines_of second), length_lines first, length_lines second)
length_lines (leaf l) = refl

head_is : {A : Type 0} (x y : A) (xs ys : List A) → x ∷ xs ≡ y ∷ ys → x ≡ y
head_is x y xs ys e = cc

tail_is : {A : Type 0} (x y : A) (xs ys : List A) → x ∷ xs ≡ y ∷ ys → xs ≡ ys
tail_is x y xs ys e = cc

-- ---- what a line is of

same_cut_at : (side side' : Side) (slot slot' : ℕ) (v v' : ℤ) → line_at side slot v ≡ line_at side' slot' v' → cut_at side slot v ≡ cut_at side' slot' v'
same_cut_at Low Low slot slot' v v' e = let s : slot ≡ slot' = cc in let w : v ≡ v' = cc in ap₂ (cut_at Low) s w
same_cut_at Low High slot slot' v v' e = cc
same_cut_at High Low slot slot' v v' e = cc
same_cut_at High High slot slot' v v' e = let s : slot ≡ slot' = cc in let w : v ≡ v' = cc in ap₂ (cut_at High) s w

pub same_cut : (a b : Cut) → cut_line a ≡ cut_line b → a ≡ b
same_cut a b e = same_cut_at a.side b.side a.slot b.slot a.value b.value e

-- lists of one length that begin two equal lists are equal
same_front : (ps qs xs ys : List Pick) → length ps ≡ length qs → ps ++ xs ≡ qs ++ ys → (ps ≡ qs) × (xs ≡ ys)
same_front [] [] xs ys n e = (refl, e)
same_front [] (q ∷ qs) xs ys n e = cc
same_front (p ∷ ps) [] xs ys n e = cc
same_front (p ∷ ps) (q ∷ qs) xs ys n e =
    let rest = same_front ps qs xs ys (omega (arith, n)) (tail_is p q (ps ++ xs) (qs ++ ys) e) in
    (ap₂ (λ (x : Pick) (l : List Pick). x ∷ l) (head_is p q (ps ++ xs) (qs ++ ys) e) rest.0, rest.1)

-- leaves of one line, the picks of which begin two equal lists, are equal
same_leaf_picks : (a b : Leaf) (xs ys : List Pick) → leaf_line a ≡ leaf_line b → leaf_picks a ++ xs ≡ leaf_picks b ++ ys → (a ≡ b) × (xs ≡ ys)
same_leaf_picks (close j) (close k) xs ys e h = let s : j ≡ k = cc in (ap close s, h)
same_leaf_picks (close j) (added qs) xs ys e h = cc
same_leaf_picks (close j) unknown xs ys e h = cc
same_leaf_picks (added ps) (close k) xs ys e h = cc
same_leaf_picks (added ps) (added qs) xs ys e h =
    let n : length ps ≡ length qs = cc in let both = same_front ps qs xs ys n h in (ap added both.0, both.1)
same_leaf_picks (added ps) unknown xs ys e h = cc
same_leaf_picks unknown (close k) xs ys e h = cc
same_leaf_picks unknown (added qs) xs ys e h = cc
same_leaf_picks unknown unknown xs ys e h = (refl, h)

pub same_leaf : (a b : Leaf) → leaf_line a ≡ leaf_line b → leaf_picks a ≡ leaf_picks b → a ≡ b
same_leaf a b e h = (same_leaf_picks a b [] [] e (ap (λ l. l ++ []) h)).0

cut_no_leaf_at : (side : Side) (slot : ℕ) (v : ℤ) (l : Leaf) → line_at side slot v ≡ leaf_line l → ⊥
cut_no_leaf_at Low slot v (close k) e = cc
cut_no_leaf_at Low slot v (added ps) e = cc
cut_no_leaf_at Low slot v unknown e = cc
cut_no_leaf_at High slot v (close k) e = cc
cut_no_leaf_at High slot v (added ps) e = cc
cut_no_leaf_at High slot v unknown e = cc

pub cut_no_leaf : (cut : Cut) (l : Leaf) → cut_line cut ≡ leaf_line l → ⊥
cut_no_leaf cut l e = cut_no_leaf_at cut.side cut.slot cut.value l e

-- ---- whole trees

-- lines and picks that begin with those of a tree begin with those of one tree alone
pub same_tree : (a b : Tree) (xs ys : List Line) (ps qs : List Pick) → lines_of a ++ xs ≡ lines_of b ++ ys → picks_of a ++ ps ≡ picks_of b ++ qs
    → (a ≡ b) × (xs ≡ ys) × (ps ≡ qs)
same_tree (branch cut first second) (branch cut' first' second') xs ys ps qs e h =
    let heads = head_is (cut_line cut) (cut_line cut') (lines_of first ++ lines_of second ++ xs) (lines_of first' ++ lines_of second' ++ ys) e in
    let tails = tail_is (cut_line cut) (cut_line cut') (lines_of first ++ lines_of second ++ xs) (lines_of first' ++ lines_of second' ++ ys) e in
    let one = same_tree first first' (lines_of second ++ xs) (lines_of second' ++ ys) (picks_of second ++ ps) (picks_of second' ++ qs)
    (sym (append_assoc (lines_of first) (lines_of second) xs) ∙ (tails ∙ append_assoc (lines_of first') (lines_of second') ys))
    (sym (append_assoc (picks_of first) (picks_of second) ps) ∙ (h ∙ append_assoc (picks_of first') (picks_of second') qs)) in
    let two = same_tree second second' xs ys ps qs one.1 one.2 in
    (ap₂ (λ (c : Cut) (t : Tree). branch c t second) (same_cut cut cut' heads) one.0 ∙ ap (branch cut' first') two.0, two.1, two.2)
same_tree (branch cut first second) (leaf l) xs ys ps qs e h =
    absurd (cut_no_leaf cut l (head_is (cut_line cut) (leaf_line l) (lines_of first ++ lines_of second ++ xs) ys e))
same_tree (leaf l) (branch cut first second) xs ys ps qs e h =
    absurd (cut_no_leaf cut l (sym (head_is (leaf_line l) (cut_line cut) xs (lines_of first ++ lines_of second ++ ys) e)))
same_tree (leaf l) (leaf l') xs ys ps qs e h =
    let both = same_leaf_picks l l' ps qs (head_is (leaf_line l) (leaf_line l') xs ys e) h in
    (ap leaf both.0, tail_is (leaf_line l) (leaf_line l') xs ys e, both.1)

-- a record is of one tree alone
pub one_tree : (a b : Tree) → lines_of a ≡ lines_of b → picks_of a ≡ picks_of b → a ≡ b
one_tree a b e h = (same_tree a b [] [] [] [] (ap (λ l. l ++ []) e) (ap (λ l. l ++ []) h)).0

-- ---- lines with their picks

-- the lines, and the picks, of lines with their picks
abbrev pub bare_lines : List FullLine → List Line
bare_lines [] = []
bare_lines (f ∷ fs) = f.line ∷ bare_lines fs

abbrev pub bare_picks : List FullLine → List Pick
bare_picks [] = []
bare_picks (f ∷ fs) = f.picks ++ bare_picks fs

pub bare_lines-append : (fs gs : List FullLine) → bare_lines (fs ++ gs) ≡ bare_lines fs ++ bare_lines gs
bare_lines-append [] gs = refl
bare_lines-append (f ∷ fs) gs = ap (λ l. f.line ∷ l) (bare_lines-append fs gs)

pub bare_picks-append : (fs gs : List FullLine) → bare_picks (fs ++ gs) ≡ bare_picks fs ++ bare_picks gs
bare_picks-append [] gs = refl
bare_picks-append (f ∷ fs) gs = ap (λ l. f.picks ++ l) (bare_picks-append fs gs) ∙ sym (append_assoc f.picks (bare_picks fs) (bare_picks gs))

pub lines_told : (tree : Tree) → bare_lines (full_lines tree) ≡ lines_of tree
lines_told (branch cut first second) =
    ap (λ l. cut_line cut ∷ l) (bare_lines-append (full_lines first) (full_lines second) ∙ ap₂ (λ (a b : List Line). a ++ b) (lines_told first) (lines_told second))
lines_told (leaf l) = refl

append_none : (ps : List Pick) → ps ++ [] ≡ ps
append_none [] = refl
append_none (p ∷ ps) = ap (λ l. p ∷ l) (append_none ps)

pub picks_told : (tree : Tree) → bare_picks (full_lines tree) ≡ picks_of tree
picks_told (branch cut first second) =
    bare_picks-append (full_lines first) (full_lines second) ∙ ap₂ (λ (a b : List Pick). a ++ b) (picks_told first) (picks_told second)
picks_told (leaf l) = append_none (leaf_picks l)

-- lists that begin with a tree's lines and their picks begin with those of one tree alone
pub same_full : (a b : Tree) (xs ys : List FullLine) → full_lines a ++ xs ≡ full_lines b ++ ys → (a ≡ b) × (xs ≡ ys)
same_full (branch cut first second) (branch cut' first' second') xs ys e =
    let heads = head_is (full (cut_line cut) []) (full (cut_line cut') []) (full_lines first ++ full_lines second ++ xs) (full_lines first' ++ full_lines second' ++ ys) e in
    let tails = tail_is (full (cut_line cut) []) (full (cut_line cut') []) (full_lines first ++ full_lines second ++ xs) (full_lines first' ++ full_lines second' ++ ys) e in
    let one = same_full first first' (full_lines second ++ xs) (full_lines second' ++ ys)
    (sym (append_assoc (full_lines first) (full_lines second) xs) ∙ (tails ∙ append_assoc (full_lines first') (full_lines second') ys)) in
    let two = same_full second second' xs ys one.1 in
    (ap₂ (λ (c : Cut) (t : Tree). branch c t second) (same_cut cut cut' (ap (λ (f : FullLine). f.line) heads)) one.0 ∙ ap (branch cut' first') two.0, two.1)
same_full (branch cut first second) (leaf l) xs ys e =
    absurd (cut_no_leaf cut l (ap (λ (f : FullLine). f.line) (head_is (full (cut_line cut) []) (full (leaf_line l) (leaf_picks l)) (full_lines first ++ full_lines second ++ xs) ys e)))
same_full (leaf l) (branch cut first second) xs ys e =
    absurd (cut_no_leaf cut l (sym (ap (λ (f : FullLine). f.line) (head_is (full (leaf_line l) (leaf_picks l)) (full (cut_line cut) []) xs (full_lines first ++ full_lines second ++ ys) e))))
same_full (leaf l) (leaf l') xs ys e =
    let heads = head_is (full (leaf_line l) (leaf_picks l)) (full (leaf_line l') (leaf_picks l')) xs ys e in
    (ap leaf (same_leaf l l' (ap (λ (f : FullLine). f.line) heads) (ap (λ (f : FullLine). f.picks) heads)), tail_is (full (leaf_line l) (leaf_picks l)) (full (leaf_line l') (leaf_picks l')) xs ys e)
