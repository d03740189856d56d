-- Texts of lines: which lines a text has, and that a record's lines are no prefix of another's.
use Rattle.std.proofs.Common.{◌≡◌, refl, sym, ap, ◌∙◌, ℕ, ◌≤◌, ◌⊎◌, inl, inr, ⊎_elim, Bool, true, false, List, [], ◌∷◌, ◌++◌, length, map, arith, append_assoc}
use Rattle.std.specs.Prelude.{nat_le}
use Rattle.std.proofs.lemmas.Bool.{leb-true}
use Rattle.std.proofs.lemmas.List.{append-nil}
use Rattle.linear_sums.specs.declared.pick.Pick.{Pick}
use Rattle.record_trees.specs.declared.record.Line.{Line}
use Rattle.record_trees.specs.declared.record.Record.{Record}
use Rattle.record_trees.specs.Record.{Tree, FullLine, lines_of, picks_of, IsRecordOf}
use Rattle.record_trees.proofs.Lines.{bare_lines, bare_picks, one_tree}
use Rattle.record_text.specs.declared.line.Form.{Form}
use Rattle.record_text.specs.TextLines.{TextLine}
use Rattle.record_text.specs.TextLines.{End}
use Rattle.record_text.specs.Lines.{spelled, text_of, AllShort}
use Rattle.record_text.specs.Text.{taken_all, with_picks, text_line, lines_in, form_of, record_lines, record_text, IsWritable, HasOwnText, IsTextOf}
use Rattle.record_text.proofs.FullLines.{AllFit, with_fits, text_line_unique, no_end_line, bare_again, picks_again, taken_told}
use Rattle.record_text.proofs.LineSpelling.{line_unique}

cons_both : {A : Type 0} {x y : A} {xs ys : List A} → x ≡ y → xs ≡ ys → x ∷ xs ≡ y ∷ ys
cons_both p q = rw (p, q) refl

pub text_both : (ls ms : List TextLine) → text_of (ls ++ ms) ≡ text_of ls ++ text_of ms
text_both [] ms = refl
text_both (l ∷ ls) ms = ap (λ (bs : List ℕ). spelled l ++ 10 ∷ bs) (text_both ls ms) ∙ sym (append_assoc (spelled l) (10 ∷ text_of ls) (text_of ms))

pub short_both : (ls ms : List TextLine) → AllShort ls → AllShort ms → AllShort (ls ++ ms)
short_both [] ms p q = q
short_both (l ∷ ls) ms p q = (p.0, short_both ls ms p.1 q)

-- of two lists of lines that one text begins with, the shorter begins the longer
pub lines_prefix : (ls ms : List TextLine) (xs ys : List ℕ) → AllShort ls → AllShort ms → text_of ls ++ xs ≡ text_of ms ++ ys → length ls ≤ length ms
    → (more : List TextLine) × (ms ≡ ls ++ more) × (xs ≡ text_of more ++ ys)
lines_prefix [] ms xs ys p q e less = (ms, refl, e)
lines_prefix (l ∷ ls) [] xs ys p q e less = absurd (let never : ⊥ = omega (arith, less) in never)
lines_prefix (l ∷ ls) (m ∷ ms) xs ys p q e less =
    let r : (l ≡ m) × (text_of ls ++ xs ≡ text_of ms ++ ys) = line_unique l m (text_of ls ++ xs) (text_of ms ++ ys) p.0 q.0
    (sym (append_assoc (spelled l) (10 ∷ text_of ls) xs) ∙ (e ∙ append_assoc (spelled m) (10 ∷ text_of ms) ys)) in
    let s = lines_prefix ls ms xs ys p.1 q.1 r.1 (omega (arith, less)) in
    (s.0, cons_both (sym r.0) s.1, s.2)

-- ---- the lines of cuts and leaves

-- where the lines of a record go on after some of its cuts and leaves: with another of them, or with its end
pub goes_on : (xs ns : List FullLine) (l : TextLine) (later : List TextLine) → AllFit xs → AllFit ns → map text_line xs ++ End ∷ [] ≡ map text_line ns ++ l ∷ later
    → ((n : FullLine) × (more : List FullLine) × (xs ≡ ns ++ n ∷ more) × (l ≡ text_line n)) ⊎ ((xs ≡ ns) × (l ≡ End) × (later ≡ []))
goes_on [] [] l later p q e = inr (refl, (let s : l ≡ End = cc in s), (let s : later ≡ [] = cc in s))
goes_on [] (n ∷ ns) l later p q e = absurd (no_end_line n (let s : text_line n ≡ End = cc in s))
goes_on (x ∷ xs) [] l later p q e = inl (x, xs, refl, (let s : l ≡ text_line x = cc in s))
goes_on (x ∷ xs) (n ∷ ns) l later p q e =
    let first : x ≡ n = text_line_unique x n p.0 q.0 (let s : text_line x ≡ text_line n = cc in s) in
    ⊎_elim (λ r. inl (r.0, r.1, cons_both first r.2, r.3)) (λ r. inr (cons_both first r.0, r.1, r.2))
    (goes_on xs ns l later p.1 q.1 (let s : map text_line xs ++ End ∷ [] ≡ map text_line ns ++ l ∷ later = cc in s))

made : Bool → ℕ → ℕ → ℕ → List Line → List Pick → Record
made u s c r l p = record { undecided = u; slots = s; rules = c; room = r; lines = l; picks = p }

same_record : (a b : Record) → a.undecided ≡ b.undecided → a.slots ≡ b.slots → a.rules ≡ b.rules → a.room ≡ b.room → a.lines ≡ b.lines → a.picks ≡ b.picks → a ≡ b
unfolding made
same_record a b u s c r l p =
    ap (λ (x : Bool). made x a.slots a.rules a.room a.lines a.picks) u ∙ (ap (λ (x : ℕ). made b.undecided x a.rules a.room a.lines a.picks) s
    ∙ (ap (λ (x : ℕ). made b.undecided b.slots x a.room a.lines a.picks) c ∙ (ap (λ (x : ℕ). made b.undecided b.slots b.rules x a.lines a.picks) r
    ∙ (ap (λ (x : List Line). made b.undecided b.slots b.rules b.room x a.picks) l ∙ ap (λ (x : List Pick). made b.undecided b.slots b.rules b.room b.lines x) p))))

pub either_order : (m n : ℕ) → (m ≤ n) ⊎ (n ≤ m)
either_order m n = by_test (nat_le m n) refl
  where
    by_test : (b : Bool) → nat_le m n ≡ b → (m ≤ n) ⊎ (n ≤ m)
    by_test true e = inl (leb-true m n e)
    by_test false e = inr (let less : n ≤ m = grind (arith) in less)

-- each sum has as many rules as it takes, and none is left
abbrev pub TakesAll : Record → Type 0
TakesAll claim = taken_all claim.lines ≡ length claim.picks

record_fits : (claim : Record) → TakesAll claim → AllFit (with_picks claim.lines claim.picks)
record_fits claim all = with_fits claim.lines claim.picks (omega (arith, all))

-- the lines of a record in a form are no prefix of another's
pub form_prefix : (f g : Form) (a b : Record) (more : List TextLine) → TakesAll a → TakesAll b → lines_in f a ≡ lines_in g b ++ more → (a ≡ b) × (more ≡ [])
form_prefix f g a b more p q e =
    ⊎_elim (λ r. absurd (no_end_line r.0 (sym r.3))) (λ r. (same_of r.0, r.2))
    (goes_on (with_picks a.lines a.picks) (with_picks b.lines b.picks) End more (record_fits a p) (record_fits b q) tails_of)
  where
    tails_of : map text_line (with_picks a.lines a.picks) ++ End ∷ [] ≡ map text_line (with_picks b.lines b.picks) ++ End ∷ more
    tails_of =
        let s : map text_line (with_picks a.lines a.picks) ++ End ∷ [] ≡ (map text_line (with_picks b.lines b.picks) ++ End ∷ []) ++ more = cc in
        s ∙ append_assoc (map text_line (with_picks b.lines b.picks)) (End ∷ []) more

    same_of : with_picks a.lines a.picks ≡ with_picks b.lines b.picks → a ≡ b
    same_of all = same_record a b (let u : a.undecided ≡ b.undecided = cc in u) (let n : a.slots ≡ b.slots = cc in n) (let n : a.rules ≡ b.rules = cc in n)
        (let n : a.room ≡ b.room = cc in n)
        (sym (bare_again a.lines a.picks) ∙ (ap bare_lines all ∙ bare_again b.lines b.picks))
        (sym (picks_again a.lines a.picks p) ∙ (ap bare_picks all ∙ picks_again b.lines b.picks q))

-- a record's lines are no prefix of another's
pub record_prefix : (a b : Record) (more : List TextLine) → TakesAll a → TakesAll b → record_lines a ≡ record_lines b ++ more → (a ≡ b) × (more ≡ [])
record_prefix a b more p q e = form_prefix (form_of a) (form_of b) a b more p q e

-- the record of a tree takes all its rules
pub takes_all : (claim : Record) (tree : Tree) → claim.lines ≡ lines_of tree → claim.picks ≡ picks_of tree → TakesAll claim
takes_all claim tree lines picks = ap taken_all lines ∙ (taken_told tree ∙ ap (λ (ps : List Pick). length ps) (sym picks))

pub writable_of : (claim : Record) (tree : Tree) → IsRecordOf claim tree → AllShort (record_lines claim) → IsWritable claim
writable_of claim tree r short = record { short = short; all_taken = takes_all claim tree r.lines r.picks }

-- two records with one text are one, if both may be written
pub same_text : (a b : Record) → IsWritable a → IsWritable b → record_text a ≡ record_text b → a ≡ b
same_text a b p q e = ⊎_elim (shorter a b p q e) (λ less. sym (shorter b a q p (sym e) less)) (either_order (length (record_lines a)) (length (record_lines b)))
  where
    shorter : (c d : Record) → IsWritable c → IsWritable d → record_text c ≡ record_text d → length (record_lines c) ≤ length (record_lines d) → c ≡ d
    shorter c d k j e less =
        let r = lines_prefix (record_lines c) (record_lines d) [] [] k.short j.short (append-nil (record_text c) ∙ (e ∙ sym (append-nil (record_text d)))) less in
        sym (record_prefix d c r.0 j.all_taken k.all_taken r.1).0

pub own_text : (claim : Record) → IsWritable claim → HasOwnText claim
own_text claim w other p e = same_text other claim p w e

-- one record at most has a text, and is of one tree
pub text_of_one : (text : List ℕ) (a b : Record) (s t : Tree) → IsTextOf text a s → IsTextOf text b t → (a ≡ b) × (s ≡ t)
text_of_one text a b s t p q =
    let same : a ≡ b = same_text a b (writable_of a s p.record_of p.short) (writable_of b t q.record_of q.short) (sym p.spelled ∙ q.spelled) in
    (same, one_tree s t (sym p.record_of.lines ∙ (ap (λ (r : Record). r.lines) same ∙ q.record_of.lines)) (sym p.record_of.picks ∙ (ap (λ (r : Record). r.picks) same ∙ q.record_of.picks)))

-- no text of a record begins another's
pub text_prefix : (text more : List ℕ) (a b : Record) (s t : Tree) → IsTextOf text a s → IsTextOf (text ++ more) b t → (a ≡ b) × (more ≡ [])
text_prefix text more a b s t p q =
    let e : record_text a ++ more ≡ record_text b ++ [] = ap (λ (bs : List ℕ). bs ++ more) (sym p.spelled) ∙ (q.spelled ∙ sym (append-nil (record_text b))) in
    ⊎_elim (λ less. begins (lines_prefix (record_lines a) (record_lines b) more [] p.short q.short e less))
    (λ less. begun (lines_prefix (record_lines b) (record_lines a) [] more q.short p.short (sym e) less))
    (either_order (length (record_lines a)) (length (record_lines b)))
  where
    all_a : TakesAll a
    all_a = takes_all a s p.record_of.lines p.record_of.picks

    all_b : TakesAll b
    all_b = takes_all b t q.record_of.lines q.record_of.picks

    nothing_more : (later : List TextLine) → later ≡ [] → more ≡ text_of later ++ [] → more ≡ []
    nothing_more later none is = is ∙ ap (λ (ls : List TextLine). text_of ls ++ []) none

    begins : (later : List TextLine) × (record_lines b ≡ record_lines a ++ later) × (more ≡ text_of later ++ []) → (a ≡ b) × (more ≡ [])
    begins r = let w = record_prefix b a r.0 all_b all_a r.1 in (sym w.0, nothing_more r.0 w.1 r.2)

    begun : (later : List TextLine) × (record_lines a ≡ record_lines b ++ later) × ([] ≡ text_of later ++ more) → (a ≡ b) × (more ≡ [])
    begun r = let w = record_prefix a b r.0 all_a all_b r.1 in (w.0, sym (r.2 ∙ ap (λ (ls : List TextLine). text_of ls ++ more) w.1))
