-- A record's cuts and leaves with the rules of their sums, and those of its tree.
use Rattle.std.proofs.Common.{◌≡◌, refl, sym, ap, ap₂, ◌∙◌, ℕ, zero, suc, ◌+◌, ◌≤◌, ◌||◌, Bool, true, false, if◌then◌else◌, List, [], ◌∷◌, ◌++◌, length, map, take, drop, ℤ, arith, append_assoc, length-append, length-drop}
use Rattle.std.specs.List.{list_any}
use Rattle.std.proofs.lemmas.List.{append-nil, length-take-le, take-append-drop}
use Rattle.box_eval.specs.declared.cut.Cut.{Cut}
use Rattle.box_eval.specs.declared.cut.Side.{Side}
use Rattle.box_eval.specs.declared.cut.Side.TheVariants as Side
use Rattle.linear_sums.specs.declared.pick.Pick.{Pick}
use Rattle.record_trees.specs.declared.record.Line.{Line}
use Rattle.record_trees.specs.declared.record.Line.TheVariants as L
use Rattle.record_trees.specs.Record.{Tree, branch, leaf, Leaf, close, added, unknown, FullLine, full, line_at, cut_line, leaf_line, leaf_picks, lines_of, picks_of, full_lines, has_sum}
use Rattle.record_trees.proofs.Lines.{bare_lines, bare_picks}
use Rattle.record_text.specs.TextLines.{TextLine}
use Rattle.record_text.specs.TextLines as T
use Rattle.record_text.specs.Text.{taken, taken_all, with_picks, line_with, text_line, is_sum_line, sum_among}
use Rattle.record_text.specs.Rest.{node_line}

-- ---- what a tree's lines take

cut_takes_none : (cut : Cut) → taken (cut_line cut) ≡ 0
cut_takes_none cut = by_side cut.side
  where
    by_side : (side : Side) → taken (line_at side cut.slot cut.value) ≡ 0
    by_side Side.Low = refl
    by_side Side.High = refl

take_front : (ps qs : List Pick) → take (length ps) (ps ++ qs) ≡ ps
take_front [] qs = refl
take_front (p ∷ ps) qs = ap (λ (xs : List Pick). p ∷ xs) (take_front ps qs)

drop_front : (ps qs : List Pick) → drop (length ps) (ps ++ qs) ≡ qs
drop_front [] qs = refl
drop_front (p ∷ ps) qs = drop_front ps qs

told_then : (t : Tree) (ls : List Line) (ps : List Pick) → with_picks (lines_of t ++ ls) (picks_of t ++ ps) ≡ full_lines t ++ with_picks ls ps
told_then (branch cut a b) ls ps =
    let rest : with_picks ((lines_of a ++ lines_of b) ++ ls) ((picks_of a ++ picks_of b) ++ ps) ≡ (full_lines a ++ full_lines b) ++ with_picks ls ps =
    ap₂ (λ (xs : List Line) (qs : List Pick). with_picks xs qs) (append_assoc (lines_of a) (lines_of b) ls) (append_assoc (picks_of a) (picks_of b) ps)
    ∙ (told_then a (lines_of b ++ ls) (picks_of b ++ ps)
    ∙ (ap (λ (fs : List FullLine). full_lines a ++ fs) (told_then b ls ps) ∙ sym (append_assoc (full_lines a) (full_lines b) (with_picks ls ps)))) in
    ap (λ (k : ℕ). full (cut_line cut) (take k ((picks_of a ++ picks_of b) ++ ps)) ∷ with_picks ((lines_of a ++ lines_of b) ++ ls) (drop k ((picks_of a ++ picks_of b) ++ ps))) (cut_takes_none cut)
    ∙ ap (λ (fs : List FullLine). full (cut_line cut) [] ∷ fs) rest
told_then (leaf (close rule)) ls ps = refl
told_then (leaf (added picks)) ls ps =
    ap₂ (λ (qs rs : List Pick). full (L.Sum (length picks)) qs ∷ with_picks ls rs) (take_front picks ps) (drop_front picks ps)
told_then (leaf unknown) ls ps = refl

-- a tree's lines take its rules
pub told_lines : (t : Tree) → with_picks (lines_of t) (picks_of t) ≡ full_lines t
told_lines t =
    ap₂ (λ (xs : List Line) (qs : List Pick). with_picks xs qs) (sym (append-nil (lines_of t))) (sym (append-nil (picks_of t)))
    ∙ (told_then t [] [] ∙ append-nil (full_lines t))

taken_both : (ls ms : List Line) → taken_all (ls ++ ms) ≡ taken_all ls + taken_all ms
taken_both [] ms = omega arith
taken_both (l ∷ ls) ms = omega (arith, taken_both ls ms)

-- and all of them
pub taken_told : (t : Tree) → taken_all (lines_of t) ≡ length (picks_of t)
taken_told (branch cut a b) =
    omega (arith, cut_takes_none cut, taken_both (lines_of a) (lines_of b), taken_told a, taken_told b, length-append (picks_of a) (picks_of b))
taken_told (leaf (close rule)) = refl
taken_told (leaf (added picks)) = omega arith
taken_told (leaf unknown) = refl

-- ---- sums

any_both : (ls ms : List Line) → sum_among (ls ++ ms) ≡ (sum_among ls || sum_among ms)
any_both [] ms = refl
any_both (l ∷ ls) ms = ap (λ (b : Bool). is_sum_line l || b) (any_both ls ms) ∙ sym (or_assoc (is_sum_line l) (sum_among ls) (sum_among ms))
  where
    or_assoc : (x y z : Bool) → ((x || y) || z) ≡ (x || (y || z))
    or_assoc true y z = refl
    or_assoc false y z = refl

cut_no_sum : (cut : Cut) → is_sum_line (cut_line cut) ≡ false
cut_no_sum cut = by_side cut.side
  where
    by_side : (side : Side) → is_sum_line (line_at side cut.slot cut.value) ≡ false
    by_side Side.Low = refl
    by_side Side.High = refl

-- some line of a tree is a sum if some leaf is
pub sum_lines : (t : Tree) → sum_among (lines_of t) ≡ has_sum t
sum_lines (branch cut a b) =
    ap (λ (x : Bool). x || sum_among (lines_of a ++ lines_of b)) (cut_no_sum cut)
    ∙ (any_both (lines_of a) (lines_of b) ∙ ap₂ (λ (x y : Bool). x || y) (sum_lines a) (sum_lines b))
sum_lines (leaf (close rule)) = refl
sum_lines (leaf (added picks)) = refl
sum_lines (leaf unknown) = refl

-- ---- lines that have as many rules as they take

abbrev pub Fits : FullLine → Type 0
Fits f = length f.picks ≡ taken f.line

abbrev pub AllFit : List FullLine → Type 0
AllFit [] = Unit {0}
AllFit (f ∷ fs) = Fits f × AllFit fs

pub fit_both : (fs gs : List FullLine) → AllFit fs → AllFit gs → AllFit (fs ++ gs)
fit_both [] gs p q = q
fit_both (f ∷ fs) gs p q = (p.0, fit_both fs gs p.1 q)

pub fit_front : (fs gs : List FullLine) → AllFit (fs ++ gs) → AllFit fs
fit_front [] gs p = tt
fit_front (f ∷ fs) gs p = (p.0, fit_front fs gs p.1)

pub tree_fits : (t : Tree) → AllFit (full_lines t)
tree_fits (branch cut a b) = (sym (cut_takes_none cut), fit_both (full_lines a) (full_lines b) (tree_fits a) (tree_fits b))
tree_fits (leaf (close rule)) = (refl, tt)
tree_fits (leaf (added picks)) = (refl, tt)
tree_fits (leaf unknown) = (refl, tt)

pub with_fits : (ls : List Line) (ps : List Pick) → taken_all ls ≤ length ps → AllFit (with_picks ls ps)
with_fits [] ps few = tt
with_fits (l ∷ ls) ps few = (length-take-le (taken l) ps (omega (arith, few)), with_fits ls (drop (taken l) ps) (omega (arith, few, length-drop (taken l) ps)))

empty_if : (ps : List Pick) → length ps ≡ 0 → ps ≡ []
empty_if [] e = refl
empty_if (p ∷ ps) e = absurd (let never : ⊥ = omega (arith, e) in never)

-- such a line is told by the line of its text
again : (l : Line) (ps : List Pick) → length ps ≡ taken l → node_line (line_with l ps) ≡ full l ps
again (L.Low slot value) ps e = ap (full (L.Low slot value)) (sym (empty_if ps e))
again (L.High slot value) ps e = ap (full (L.High slot value)) (sym (empty_if ps e))
again (L.Close rule) ps e = ap (full (L.Close rule)) (sym (empty_if ps e))
again (L.Sum count) ps e = ap (λ (k : ℕ). full (L.Sum k) ps) e
again L.Unknown ps e = ap (full L.Unknown) (sym (empty_if ps e))

pub text_line_unique : (f g : FullLine) → Fits f → Fits g → text_line f ≡ text_line g → f ≡ g
text_line_unique f g p q e = sym (again f.line f.picks p) ∙ (ap node_line e ∙ again g.line g.picks q)

pub no_end_line : (f : FullLine) → text_line f ≡ T.End → ⊥
no_end_line f e = by_line f.line f.picks e
  where
    by_line : (l : Line) (ps : List Pick) → line_with l ps ≡ T.End → ⊥
    by_line (L.Low slot value) ps e = cc
    by_line (L.High slot value) ps e = cc
    by_line (L.Close rule) ps e = cc
    by_line (L.Sum count) ps e = cc
    by_line L.Unknown ps e = cc

-- ---- a record's own lines and rules

pub bare_again : (ls : List Line) (ps : List Pick) → bare_lines (with_picks ls ps) ≡ ls
bare_again [] ps = refl
bare_again (l ∷ ls) ps = ap (λ (xs : List Line). l ∷ xs) (bare_again ls (drop (taken l) ps))

pub picks_again : (ls : List Line) (ps : List Pick) → taken_all ls ≡ length ps → bare_picks (with_picks ls ps) ≡ ps
picks_again [] ps e = sym (empty_if ps (sym e))
picks_again (l ∷ ls) ps e =
    ap (λ (xs : List Pick). take (taken l) ps ++ xs) (picks_again ls (drop (taken l) ps) (omega (arith, e, length-drop (taken l) ps)))
    ∙ take-append-drop (taken l) ps
