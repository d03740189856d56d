-- The first line of a text that no record's text has there.
use Rattle.std.proofs.Common.{◌≡◌, refl, sym, ap, ap₂, ◌∙◌, subst, ℕ, suc, zero, ◌+◌, ◌^◌, ◌<◌, ⊎_elim, Bool, true, false, not, ◌&&◌, ◌||◌, if◌then◌else◌, List, [], ◌∷◌, ◌++◌, length, map, arith, append_assoc}
use Rattle.std.specs.Prelude.{◌==◌, ⊤}
use Rattle.std.proofs.lemmas.Bool.{false≢true}
use Rattle.std.proofs.lemmas.List.{append-nil, length-append, map-append}
use Rattle.box_eval.specs.declared.cut.Cut.{Cut}
use Rattle.box_eval.specs.declared.cut.Side.{Side}
use Rattle.linear_sums.specs.declared.pick.Pick.{Pick}
use Rattle.record_trees.specs.declared.record.Line.{Line}
use Rattle.record_trees.specs.declared.record.Line.TheVariants as L
use Rattle.record_trees.specs.declared.record.Record.{Record}
use Rattle.record_trees.specs.Record.{Tree, branch, leaf, close, added, unknown, line_at, cut_line, FullLine, full, full_lines, lines_of, picks_of, has_open, has_sum, cuts_of, IsRecordOf}
use Rattle.record_trees.specs.Trees.{full_lines_all, any_open, any_sum}
use Rattle.record_trees.proofs.Lines.{same_full}
use Rattle.record_text.specs.declared.line.Form.{Form}
use Rattle.record_text.specs.declared.line.Form.TheVariants.{One, Two}
use Rattle.record_text.specs.TextLines.{TextLine}
use Rattle.record_text.specs.TextLines as T
use Rattle.record_text.specs.declared.found.Wanted.{Wanted}
use Rattle.record_text.specs.declared.found.Wanted.TheVariants as W
use Rattle.record_text.specs.declared.nodes.Nodes.{Nodes}
use Rattle.record_text.specs.declared.header.Header.{Header}
use Rattle.record_text.specs.Lines.{is_two, IsShort, spelled, text_of, AllShort}
use Rattle.record_text.specs.Text.{with_picks, text_line, sum_among, form_for, lines_in, form_of, record_lines, record_text, IsTextOf, IsBeforeEnd, IsWhole, MayBegin, IsGoodFor, IsFirstBadLine}
use Rattle.record_text.specs.Reader.{wants, NoneWanted}
use Rattle.record_text.specs.Nodes.{lacks_leaf, wanted_after, IsTreeWith, AreRead, IsHeadOf, lines_so_far}
use Rattle.record_text.proofs.FullLines.{told_lines, sum_lines, AllFit, fit_front, tree_fits, no_end_line}
use Rattle.record_text.proofs.Texts.{short_both, lines_prefix, goes_on, TakesAll, takes_all, form_prefix, record_prefix, either_order}

-- ---- lines that may begin a text

-- as many leaves as are still to come
abbrev filler : Bool → Tree
filler undecided = if undecided then leaf unknown else leaf (close 0)

abbrev fillers : Bool → ℕ → List Tree
fillers undecided zero = []
fillers undecided (suc k) = filler undecided ∷ fillers undecided k

length_fillers : (undecided : Bool) (k : ℕ) → length (fillers undecided k) ≡ k
length_fillers undecided zero = refl
length_fillers undecided (suc k) = ap suc (length_fillers undecided k)

no_open_fillers : (k : ℕ) → any_open (fillers false k) ≡ false
no_open_fillers zero = refl
no_open_fillers (suc k) = no_open_fillers k

no_sum_fillers : (undecided : Bool) (k : ℕ) → any_sum (fillers undecided k) ≡ false
no_sum_fillers undecided zero = refl
no_sum_fillers true (suc k) = no_sum_fillers true k
no_sum_fillers false (suc k) = no_sum_fillers false k

short_lines : (undecided : Bool) (k : ℕ) → AllShort (map text_line (full_lines_all (fillers undecided k)))
short_lines undecided zero = tt
short_lines true (suc k) = (tt, short_lines true k)
short_lines false (suc k) = (few, short_lines false k)
  where
    few : 0 < 10 ^ 18
    few = omega arith

-- the record of a header and a tree
abbrev pub claim_of : Header → Tree → Record
claim_of h t = record { undecided = h.undecided; slots = h.slots; rules = h.rules; room = h.room; lines = lines_of t; picks = picks_of t }

short_front : (ls ms : List TextLine) → AllShort (ls ++ ms) → AllShort ls
short_front [] ms h = tt
short_front (l ∷ ls) ms h = (h.0, short_front ls ms h.1)

-- its lines, of which some were read
pub lines_are_in : (h : Header) (ls more : List FullLine) (t : Tree) → full_lines t ≡ ls ++ more → lines_in h.form (claim_of h t) ≡ lines_so_far h ls ++ (map text_line more ++ T.End ∷ [])
lines_are_in h ls more t is = ap (λ (xs : List TextLine). T.Head h.undecided h.form ∷ T.Slots h.slots ∷ T.Rules h.rules ∷ T.Room h.room ∷ xs)
    (ap (λ (fs : List FullLine). map text_line fs ++ T.End ∷ []) (told_lines t ∙ is)
    ∙ (ap (λ (xs : List TextLine). xs ++ T.End ∷ []) (map-append text_line ls more) ∙ append_assoc (map text_line ls) (map text_line more) (T.End ∷ [])))

either : (a b : Bool) → (a || b) ≡ true → b ≡ false → a ≡ true
either true b e f = refl
either false b e f = absurd (false≢true (sym f ∙ e))

-- the lines of a record so far may begin a text
pub so_far_begins : (h : Header) (ls : List FullLine) (n : Nodes) → AreRead ls n → IsHeadOf h n → AllShort (lines_so_far h ls) → MayBegin (lines_so_far h ls)
so_far_begins h ls n r same short =
    let w = r.grown (fillers n.undecided n.left) (length_fillers n.undecided n.left) in
    record {
      claim = claim_of h w.tree;
      tree = w.tree;
      form = h.form;
      before_end = record {
        lines = refl;
        picks = refl;
        open_in_undecided = λ open_ends. sym same.undecided ∙ undecided_if n.undecided n.left refl (sym w.open_is ∙ open_ends);
        sum_in_two = λ some_sum. sym same.form ∙ r.sum_in_two (either n.some_sum (any_sum (fillers n.undecided n.left)) (sym w.sum_is ∙ some_sum) (no_sum_fillers n.undecided n.left));
        short = subst AllShort (sym (lines_are_in h ls (full_lines_all (fillers n.undecided n.left)) w.tree w.lines_are))
            (short_both (lines_so_far h ls) (map text_line (full_lines_all (fillers n.undecided n.left)) ++ T.End ∷ []) short
            (short_both (map text_line (full_lines_all (fillers n.undecided n.left))) (T.End ∷ []) (short_lines n.undecided n.left) (tt, tt)));
      };
      later = map text_line (full_lines_all (fillers n.undecided n.left)) ++ T.End ∷ [];
      whole = lines_are_in h ls (full_lines_all (fillers n.undecided n.left)) w.tree w.lines_are;
      at_end = λ e. absurd (no_empty (map text_line (full_lines_all (fillers n.undecided n.left))) e);
    }
  where
    no_empty : (ls : List TextLine) → ls ++ T.End ∷ [] ≡ [] → ⊥
    no_empty [] e = cc
    no_empty (l ∷ ls) e = cc

    undecided_if : (u : Bool) (k : ℕ) → n.undecided ≡ u → (n.some_open || any_open (fillers u k)) ≡ true → u ≡ true
    undecided_if true k is e = refl
    undecided_if false k is e = sym is ∙ r.open_in_undecided (either n.some_open (any_open (fillers false k)) e (no_open_fillers k))

-- ---- what may come next

-- the lines of a record that begin with these, from the first cut on
from_first_cut : (f : Form) (claim : Record) (tree : Tree) (h : Header) (ls : List FullLine) (l : TextLine) (later : List TextLine) → claim.lines ≡ lines_of tree → claim.picks ≡ picks_of tree
    → lines_in f claim ≡ (lines_so_far h ls ++ l ∷ []) ++ later
    → (map text_line (full_lines tree) ++ T.End ∷ [] ≡ map text_line ls ++ l ∷ later) × (claim.undecided ≡ h.undecided) × (f ≡ h.form)
from_first_cut f claim tree h ls l later lines picks e =
    let tails : map text_line (with_picks claim.lines claim.picks) ++ T.End ∷ [] ≡ (map text_line ls ++ l ∷ []) ++ later = cc in
    let head_ : claim.undecided ≡ h.undecided = cc in
    let form_ : f ≡ h.form = cc in
    let told : full_lines tree ≡ with_picks claim.lines claim.picks =
    sym (ap₂ (λ (xs : List Line) (ps : List Pick). with_picks xs ps) lines picks ∙ told_lines tree) in
    (ap (λ (fs : List FullLine). map text_line fs ++ T.End ∷ []) told ∙ (tails ∙ append_assoc (map text_line ls) (l ∷ []) later), head_, form_)

-- a cut or a leaf among the lines, by its line
node_wanted : (undecided : Bool) (form : Form) (n : Line) (picks : List Pick) → (n ≡ L.Unknown → undecided ≡ true) → ((count : ℕ) → n ≡ L.Sum count → form ≡ Two)
    → wants (W.Node undecided form) (text_line (full n picks)) ≡ true
node_wanted undecided form (L.Low slot value) picks h k = refl
node_wanted undecided form (L.High slot value) picks h k = refl
node_wanted undecided form (L.Close rule) picks h k = refl
node_wanted undecided form (L.Sum count) picks h k = ap is_two (k count refl)
node_wanted undecided form L.Unknown picks h k = h refl

-- a tree with an open line has an open leaf, and one with a sum's line has a sum
abbrev is_open_line : Line → Bool
is_open_line (L.Low slot value) = false
is_open_line (L.High slot value) = false
is_open_line (L.Close rule) = false
is_open_line (L.Sum count) = false
is_open_line L.Unknown = true

abbrev is_summed_line : Line → Bool
is_summed_line (L.Low slot value) = false
is_summed_line (L.High slot value) = false
is_summed_line (L.Close rule) = false
is_summed_line (L.Sum count) = true
is_summed_line L.Unknown = false

module _ (test : Line → Bool) where
  abbrev among : List FullLine → Bool
  among [] = false
  among (l ∷ ls) = test l.line || among ls

  among_both : (ls ms : List FullLine) → among (ls ++ ms) ≡ (among ls || among ms)
  among_both [] ms = refl
  among_both (l ∷ ls) ms = ap (λ (b : Bool). test l.line || b) (among_both ls ms) ∙ sym (or_assoc (test l.line) (among ls) (among ms))
    where
      or_assoc : (x y z : Bool) → ((x || y) || z) ≡ (x || (y || z))
      or_assoc true y z = refl
      or_assoc false y z = refl

  among_with : (t : Tree) (before after : List FullLine) (l : FullLine) → full_lines t ≡ before ++ l ∷ after → test l.line ≡ true → among (full_lines t) ≡ true
  among_with t before after l e is = ap among e ∙ (among_both before (l ∷ after) ∙ (ap (λ (b : Bool). among before || (b || among after)) is ∙ or_true (among before)))
    where
      or_true : (b : Bool) → (b || true) ≡ true
      or_true true = refl
      or_true false = refl

cut_not_open : (cut : Cut) → is_open_line (cut_line cut) ≡ false
cut_not_open cut = by_side cut.side
  where
    by_side : (side : Side) → is_open_line (line_at side cut.slot cut.value) ≡ false
    by_side Side.Low = refl
    by_side Side.High = refl

cut_not_summed : (cut : Cut) → is_summed_line (cut_line cut) ≡ false
cut_not_summed cut = by_side cut.side
  where
    by_side : (side : Side) → is_summed_line (line_at side cut.slot cut.value) ≡ false
    by_side Side.Low = refl
    by_side Side.High = refl

open_as_lines : (t : Tree) → among is_open_line (full_lines t) ≡ has_open t
open_as_lines (branch cut a b) = ap (λ (x : Bool). x || among is_open_line (full_lines a ++ full_lines b)) (cut_not_open cut)
    ∙ (among_both is_open_line (full_lines a) (full_lines b) ∙ ap₂ (λ (x y : Bool). x || y) (open_as_lines a) (open_as_lines b))
open_as_lines (leaf (close rule)) = refl
open_as_lines (leaf (added picks)) = refl
open_as_lines (leaf unknown) = refl

sums_as_lines : (t : Tree) → among is_summed_line (full_lines t) ≡ has_sum t
sums_as_lines (branch cut a b) = ap (λ (x : Bool). x || among is_summed_line (full_lines a ++ full_lines b)) (cut_not_summed cut)
    ∙ (among_both is_summed_line (full_lines a) (full_lines b) ∙ ap₂ (λ (x y : Bool). x || y) (sums_as_lines a) (sums_as_lines b))
sums_as_lines (leaf (close rule)) = refl
sums_as_lines (leaf (added picks)) = refl
sums_as_lines (leaf unknown) = refl

open_line : (t : Tree) (before after : List FullLine) (l : FullLine) → full_lines t ≡ before ++ l ∷ after → l.line ≡ L.Unknown → has_open t ≡ true
open_line t before after l e is = sym (open_as_lines t) ∙ among_with is_open_line t before after l e (ap is_open_line is)

sum_line : (t : Tree) (before after : List FullLine) (l : FullLine) (count : ℕ) → full_lines t ≡ before ++ l ∷ after → l.line ≡ L.Sum count → has_sum t ≡ true
sum_line t before after l count e is = sym (sums_as_lines t) ∙ among_with is_summed_line t before after l e (ap is_summed_line is)

-- the lines that were read have as many rules as they take
read_fits : (ls : List FullLine) (n : Nodes) → AreRead ls n → AllFit ls
read_fits ls n r =
    let w = r.grown (fillers n.undecided n.left) (length_fillers n.undecided n.left) in
    fit_front ls (full_lines_all (fillers n.undecided n.left)) (subst AllFit w.lines_are (tree_fits w.tree))

-- after these lines of a record, a cut or a leaf comes while trees are still to come
pub node_next : (h : Header) (ls : List FullLine) (n : Nodes) → AreRead ls n → IsHeadOf h n → 0 < n.left → (l : TextLine) → MayBegin (lines_so_far h ls ++ l ∷ [])
    → wants (W.Node n.undecided n.form) l ≡ true
node_next h ls n r same some_ l b =
    let f = from_first_cut b.form b.claim b.tree h ls l b.later b.before_end.lines b.before_end.picks b.whole in
    ⊎_elim (λ g. subst (λ (k : TextLine). wants (W.Node n.undecided n.form) k ≡ true) (sym g.3)
    (node_wanted n.undecided n.form g.0.line g.0.picks
    (λ is. same.undecided ∙ (sym f.1 ∙ b.before_end.open_in_undecided (open_line b.tree ls g.1 g.0 g.2 is)))
    (λ count is. same.form ∙ (sym f.2 ∙ b.before_end.sum_in_two (sum_line b.tree ls g.1 g.0 count g.2 is)))))
    (λ g. absurd (too_early g.0))
    (goes_on (full_lines b.tree) ls l b.later (tree_fits b.tree) (read_fits ls n r) f.0)
  where
    too_early : full_lines b.tree ≡ ls → ⊥
    too_early all = no_more n.left some_ r.grown
      where
        filled : (k : ℕ) → [] ≡ full_lines_all (fillers true (suc k)) → ⊥
        filled k e = cc

        no_more : (k : ℕ) → 0 < k → ((ts : List Tree) → length ts ≡ k → IsTreeWith ls n ts) → ⊥
        no_more zero less grown = let never : ⊥ = omega (arith, less) in never
        no_more (suc k) less grown =
            let w = grown (fillers true (suc k)) (length_fillers true (suc k)) in
            let whole : full_lines w.tree ++ [] ≡ full_lines b.tree ++ full_lines_all (fillers true (suc k)) =
            append-nil (full_lines w.tree) ∙ (w.lines_are ∙ ap (λ (xs : List FullLine). xs ++ full_lines_all (fillers true (suc k))) (sym all)) in
            filled k (same_full w.tree b.tree [] (full_lines_all (fillers true (suc k))) whole).1

-- ---- after the last leaf

pub none_left : (n : Nodes) → n.left ≡ 0 → (n.left == 0) ≡ true
none_left n e = ap (λ (k : ℕ). k == 0) e

-- what the heading says is so of the leaves
pub record IsTold (n : Nodes) : Type 0 where
  pub undecided : n.undecided ≡ n.some_open
  pub form : n.form ≡ form_for n.some_sum

told_lacks : (u o : Bool) (f : Form) (s : Bool) → u ≡ o → f ≡ form_for s → ((u && not o) || (is_two f && not s)) ≡ false
told_lacks true true f true e k = ap (λ (g : Form). is_two g && false) k
told_lacks true true f false e k = ap (λ (g : Form). is_two g && true) k
told_lacks false false f true e k = ap (λ (g : Form). is_two g && false) k
told_lacks false false f false e k = ap (λ (g : Form). is_two g && true) k
told_lacks true false f s e k = absurd (false≢true (sym e))
told_lacks false true f s e k = absurd (false≢true e)

end_wanted : (n : Nodes) → n.left ≡ 0 → IsTold n → wants (wanted_after n) T.End ≡ true
end_wanted n none told = rw (none_left n none, told_lacks n.undecided n.some_open n.form n.some_sum told.undecided told.form) refl

lacks_told : (u o : Bool) (f : Form) (s : Bool) → (o ≡ true → u ≡ true) → (s ≡ true → f ≡ Two) → ((u && not o) || (is_two f && not s)) ≡ false → (u ≡ o) × (f ≡ form_for s)
lacks_told true false f s open_in sum_in e = absurd (false≢true (sym e))
lacks_told false true f s open_in sum_in e = absurd (false≢true (open_in refl))
lacks_told true true f true open_in sum_in e = (refl, sum_in refl)
lacks_told false false f true open_in sum_in e = (refl, sum_in refl)
lacks_told true true One false open_in sum_in e = (refl, refl)
lacks_told false false One false open_in sum_in e = (refl, refl)
lacks_told true true Two false open_in sum_in e = absurd (false≢true (sym e))
lacks_told false false Two false open_in sum_in e = absurd (false≢true (sym e))

end_is_wanted : (n : Nodes) → n.left ≡ 0 → (n.some_open ≡ true → n.undecided ≡ true) → (n.some_sum ≡ true → n.form ≡ Two) → wants (wanted_after n) T.End ≡ true → IsTold n
end_is_wanted n none open_in sum_in h =
    let t = lacks_told n.undecided n.some_open n.form n.some_sum open_in sum_in (by_test (lacks_leaf n) (rw (none_left n none) at h)) in
    record { undecided = t.0; form = t.1 }
  where
    by_test : (b : Bool) → wants (if b then W.Nothing else W.End) T.End ≡ true → b ≡ false
    by_test true w = absurd (false≢true w)
    by_test false w = refl

-- the tree whose last leaf was read
pub last_tree : (ls : List FullLine) (n : Nodes) → AreRead ls n → n.left ≡ 0
    → (t : Tree) × (full_lines t ≡ ls) × (has_open t ≡ n.some_open) × (has_sum t ≡ n.some_sum) × (cuts_of t ≡ n.cuts)
last_tree ls n r none =
    let w = r.grown [] (sym none) in
    (w.tree, w.lines_are ∙ append-nil ls, w.open_is ∙ or_false n.some_open, w.sum_is ∙ or_false n.some_sum, omega (arith, w.cuts_are))
  where
    or_false : (b : Bool) → (b || false) ≡ b
    or_false true = refl
    or_false false = refl

-- the form of a tree's record
form_told_by : (claim : Record) (t : Tree) → claim.lines ≡ lines_of t → form_of claim ≡ form_for (has_sum t)
form_told_by claim t lines = ap (λ (xs : List Line). form_for (sum_among xs)) lines ∙ ap form_for (sum_lines t)

pub end_next : (h : Header) (ls : List FullLine) (n : Nodes) → AreRead ls n → IsHeadOf h n → n.left ≡ 0 → (l : TextLine) → MayBegin (lines_so_far h ls ++ l ∷ [])
    → wants (wanted_after n) l ≡ true
end_next h ls n r same none l b =
    let f = from_first_cut b.form b.claim b.tree h ls l b.later b.before_end.lines b.before_end.picks b.whole in
    let t = last_tree ls n r none in
    ⊎_elim (λ g. absurd (too_many t.0 t.1 g.0 g.1 g.2)) (λ g.
    let whole = b.at_end g.2 in
    let one : b.tree ≡ t.0 = same_line_tree t.0 t.1 g.0 in
    let undecided_is : n.undecided ≡ n.some_open = same.undecided ∙ (sym f.1 ∙ (whole.record_of.undecided ∙ (ap has_open one ∙ t.2))) in
    let form_is : n.form ≡ form_for n.some_sum =
    same.form ∙ (sym f.2 ∙ (whole.form_is ∙ (form_told_by b.claim b.tree b.before_end.lines ∙ (ap (λ (x : Tree). form_for (has_sum x)) one ∙ ap form_for t.3)))) in
    subst (λ (k : TextLine). wants (wanted_after n) k ≡ true) (sym g.1) (end_wanted n none (record { undecided = undecided_is; form = form_is })))
    (goes_on (full_lines b.tree) ls l b.later (tree_fits b.tree) (read_fits ls n r) f.0)
  where
    same_line_tree : (t : Tree) → full_lines t ≡ ls → full_lines b.tree ≡ ls → b.tree ≡ t
    same_line_tree t is all = (same_full b.tree t [] [] (ap (λ (xs : List FullLine). xs ++ []) (all ∙ sym is))).0

    too_many : (t : Tree) → full_lines t ≡ ls → (k : FullLine) (more : List FullLine) → full_lines b.tree ≡ ls ++ k ∷ more → ⊥
    too_many t is k more all =
        let whole : full_lines b.tree ++ [] ≡ full_lines t ++ k ∷ more = append-nil (full_lines b.tree) ∙ (all ∙ ap (λ (xs : List FullLine). xs ++ k ∷ more) (sym is)) in
        let never : [] ≡ k ∷ more = (same_full b.tree t [] (k ∷ more) whole).1 in
        cc

-- a record whose end was read
pub ended : (h : Header) (ls : List FullLine) (n : Nodes) (t : Tree) → AreRead ls n → IsHeadOf h n → n.left ≡ 0 → wants (wanted_after n) T.End ≡ true
    → has_open t ≡ n.some_open → has_sum t ≡ n.some_sum → IsWhole h.form (claim_of h t) t
ended h ls n t r same none wanted open_is sum_is =
    let told = end_is_wanted n none r.open_in_undecided r.sum_in_two wanted in
    record {
      record_of = record { lines = refl; picks = refl; undecided = sym same.undecided ∙ (told.undecided ∙ sym open_is) };
      form_is = sym same.form ∙ (told.form ∙ (ap form_for (sym sum_is) ∙ sym (form_told_by (claim_of h t) t refl)));
    }

-- ---- the first bad line

abbrev pub NoEnd : List TextLine → Type 0
NoEnd [] = ⊤
NoEnd (l ∷ ls) = (l ≡ T.End → ⊥) × NoEnd ls

pub no_end_lines : (ls : List FullLine) → NoEnd (map text_line ls)
no_end_lines [] = tt
no_end_lines (l ∷ ls) = (no_end_line l, no_end_lines ls)

pub no_end_so_far : (h : Header) (ls : List FullLine) → NoEnd (lines_so_far h ls)
no_end_so_far h ls = ((λ e. cc), ((λ e. cc), ((λ e. cc), ((λ e. cc), no_end_lines ls))))

end_of_record : (claim : Record) (more : List TextLine) → NoEnd (record_lines claim ++ more) → ⊥
end_of_record claim more h = before_more (with_picks claim.lines claim.picks) (subst NoEnd (append_assoc (map text_line (with_picks claim.lines claim.picks)) (T.End ∷ []) more) h.1.1.1.1)
  where
    before_more : (xs : List FullLine) → NoEnd (map text_line xs ++ T.End ∷ more) → ⊥
    before_more [] h = h.0 refl
    before_more (x ∷ xs) h = before_more xs h.1

two_for : (s : Bool) → s ≡ true → form_for s ≡ Two
two_for s e = ap form_for e

-- a whole record is one as it may stand before its end
before_its_end : (claim : Record) (tree : Tree) → IsRecordOf claim tree → AllShort (record_lines claim) → IsBeforeEnd (form_of claim) claim tree
before_its_end claim tree r short = record {
  lines = r.lines;
  picks = r.picks;
  open_in_undecided = λ e. r.undecided ∙ e;
  sum_in_two = λ e. form_told_by claim tree r.lines ∙ two_for (has_sum tree) e;
  short = short;
}

short_begin : (lines : List TextLine) → MayBegin lines → AllShort lines
short_begin lines b = short_front lines b.later (subst AllShort b.whole b.before_end.short)

-- one line more
module _ (lines : List TextLine) (short : AllShort lines) (text rest : List ℕ) (spelled_is : text ≡ text_of lines ++ rest) where
  one_more : IsGoodFor text (length lines + 1) → (l : TextLine) × (later : List ℕ) × IsShort l × MayBegin (lines ++ l ∷ []) × (rest ≡ spelled l ++ 10 ∷ later)
  one_more g =
      let r = lines_prefix lines g.lines rest g.rest short (short_begin g.lines g.may_begin) (sym spelled_is ∙ g.spelled) (omega (arith, g.count)) in
      by_more r.0 r.1 r.2
    where
      by_more : (more : List TextLine) → g.lines ≡ lines ++ more → rest ≡ text_of more ++ g.rest
          → (l : TextLine) × (later : List ℕ) × IsShort l × MayBegin (lines ++ l ∷ []) × (rest ≡ spelled l ++ 10 ∷ later)
      by_more [] is e = let never : ⊥ = omega (arith, g.count, ap (λ (xs : List TextLine). length xs) is, length-append lines []) in absurd never
      by_more (l ∷ []) is e =
          let b : MayBegin (lines ++ l ∷ []) = subst MayBegin is g.may_begin in
          let s : AllShort (lines ++ l ∷ []) = short_begin (lines ++ l ∷ []) b in
          (l, g.rest, short_last lines l s, b, e ∙ append_assoc (spelled l) (10 ∷ []) g.rest)
        where
          short_last : (ls : List TextLine) (k : TextLine) → AllShort (ls ++ k ∷ []) → IsShort k
          short_last [] k s = s.0
          short_last (m ∷ ls) k s = short_last ls k s.1
      by_more (l ∷ m ∷ more) is e = let never : ⊥ = omega (arith, g.count, ap (λ (xs : List TextLine). length xs) is, length-append lines (l ∷ m ∷ more)) in absurd never

-- where no wanted line comes after lines that may begin a text, the line after them is the first that is bad
pub bad_line : (lines : List TextLine) (wanted : Wanted) (text rest : List ℕ) → MayBegin lines → NoEnd lines
    → ((l : TextLine) → MayBegin (lines ++ l ∷ []) → wants wanted l ≡ true) → text ≡ text_of lines ++ rest → NoneWanted wanted rest → IsFirstBadLine text (length lines + 1)
bad_line lines wanted text rest b no_end next is none = record {
  no_record = no_record;
  before = length lines;
  number = refl;
  good_before = record { lines = lines; count = refl; rest = rest; spelled = is; may_begin = b };
  bad_here = λ g. let m = one_more lines (short_begin lines b) text rest is g in none m.0 m.1 m.2 (next m.0 m.3) m.4;
}
  where
    begun : (claim : Record) (tree : Tree) → IsTextOf text claim tree → (more : List TextLine) → record_lines claim ≡ lines ++ more → rest ≡ text_of more ++ [] → ⊥
    begun claim tree t [] e r = end_of_record claim [] (subst NoEnd (sym (append-nil (record_lines claim) ∙ (e ∙ append-nil lines))) no_end)
    begun claim tree t (l ∷ later) e r =
        let step : record_lines claim ≡ (lines ++ l ∷ []) ++ later = e ∙ sym (append_assoc lines (l ∷ []) later) in
        let may : MayBegin (lines ++ l ∷ []) = record {
          claim = claim;
          tree = tree;
          form = form_of claim;
          before_end = before_its_end claim tree t.record_of t.short;
          later = later;
          whole = step;
          at_end = λ _. record { record_of = t.record_of; form_is = refl };
        } in
        none l (text_of later ++ []) (short_at lines (subst AllShort e t.short)) (next l may) (r ∙ append_assoc (spelled l) (10 ∷ text_of later) [])
      where
        short_at : (ls : List TextLine) → AllShort (ls ++ l ∷ later) → IsShort l
        short_at [] s = s.0
        short_at (m ∷ ls) s = short_at ls s.1

    no_record : (claim : Record) → (tree : Tree) → IsTextOf text claim tree → ⊥
    no_record claim tree t =
        let same : text_of lines ++ rest ≡ text_of (record_lines claim) ++ [] = sym is ∙ (t.spelled ∙ sym (append-nil (record_text claim))) in
        ⊎_elim (λ less. let r = lines_prefix lines (record_lines claim) rest [] (short_begin lines b) t.short same less in begun claim tree t r.0 r.1 r.2)
        (λ less. let r = lines_prefix (record_lines claim) lines [] rest t.short (short_begin lines b) (sym same) less in end_of_record claim r.0 (subst NoEnd r.1 no_end))
        (either_order (length lines) (length (record_lines claim)))

-- after a whole record the next line is bad where the text goes on
pub bad_after : (claim : Record) (tree : Tree) (text rest : List ℕ) → IsRecordOf claim tree → AllShort (record_lines claim) → text ≡ record_text claim ++ rest → (rest ≡ [] → ⊥)
    → IsFirstBadLine text (length (record_lines claim) + 1)
bad_after claim tree text rest record_of short is more_text = record {
  no_record = no_record;
  before = length (record_lines claim);
  number = refl;
  good_before = record {
    lines = record_lines claim;
    count = refl;
    rest = rest;
    spelled = is;
    may_begin = record {
      claim = claim;
      tree = tree;
      form = form_of claim;
      before_end = before_its_end claim tree record_of short;
      later = [];
      whole = sym (append-nil (record_lines claim));
      at_end = λ _. record { record_of = record_of; form_is = refl };
    };
  };
  bad_here = λ g. let m = one_more (record_lines claim) short text rest is g in no_line m.0 m.3;
}
  where
    takes : TakesAll claim
    takes = takes_all claim tree record_of.lines record_of.picks

    no_line : (l : TextLine) → MayBegin (record_lines claim ++ l ∷ []) → ⊥
    no_line l b =
        let never : l ∷ b.later ≡ [] =
        (form_prefix b.form (form_of claim) b.claim claim (l ∷ b.later) (takes_all b.claim b.tree b.before_end.lines b.before_end.picks) takes
        (b.whole ∙ append_assoc (record_lines claim) (l ∷ []) b.later)).1 in cc

    taken_of : (other : Record) (t : Tree) → IsTextOf text other t → TakesAll other
    taken_of other t o = takes_all other t o.record_of.lines o.record_of.picks

    nothing : (more : List TextLine) → more ≡ [] → rest ≡ text_of more ++ [] → ⊥
    nothing more none e = more_text (e ∙ ap (λ (ls : List TextLine). text_of ls ++ []) none)

    nothing_before : (more : List TextLine) → more ≡ [] → [] ≡ text_of more ++ rest → ⊥
    nothing_before more none e = more_text (sym (e ∙ ap (λ (ls : List TextLine). text_of ls ++ rest) none))

    no_record : (other : Record) → (t : Tree) → IsTextOf text other t → ⊥
    no_record other t o =
        let same : text_of (record_lines claim) ++ rest ≡ text_of (record_lines other) ++ [] = sym is ∙ (o.spelled ∙ sym (append-nil (record_text other))) in
        ⊎_elim (λ less. let r = lines_prefix (record_lines claim) (record_lines other) rest [] short o.short same less in nothing r.0 (record_prefix other claim r.0 (taken_of other t o) takes r.1).1 r.2)
        (λ less. let r = lines_prefix (record_lines other) (record_lines claim) [] rest o.short short (sym same) less in nothing_before r.0 (record_prefix claim other r.0 takes (taken_of other t o) r.1).1 r.2)
        (either_order (length (record_lines claim)) (length (record_lines other)))
