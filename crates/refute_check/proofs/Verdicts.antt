-- From what was read to the answer.
use Rattle.std.proofs.Common.{◌≡◌, refl, sym, ap, ◌∙◌, subst, ℕ, zero, suc, ◌+◌, ◌<◌, ◌≤◌, Bool, true, false, if◌then◌else◌, List, [], ◌∷◌, ◌++◌, length, map, slice_get, Option, Some, None, Result, IfErr, arith}
use Rattle.std.specs.Prelude.{nat_eq, nat_le}
use Rattle.std.proofs.lemmas.Bool.{leb-true}
use Rattle.std.proofs.lemmas.List.{append-nil}
use Rattle.box_eval.specs.declared.flat.Flat.{Flat}
use Rattle.record_trees.specs.declared.record.Record.{Record}
use Rattle.record_trees.specs.Record.{FullLine, Tree, full_lines, has_open, has_sum, cuts_of, accepts, AllTrue, IsFirstFalse, marks, IsAcceptedAs}
use Rattle.record_trees.proofs.Lines.{same_full}
use Rattle.record_trees.proofs.Empty.{refutation_empty}
use Rattle.record_text.specs.TextLines.{TextLine}
use Rattle.record_text.specs.TextLines as T
use Rattle.record_text.specs.declared.stop.VerifyStop.{VerifyStop}
use Rattle.record_text.specs.declared.nodes.Nodes.{Nodes}
use Rattle.record_text.specs.declared.header.Header.{Header}
use Rattle.record_text.specs.Lines.{text_of, AllShort}
use Rattle.record_text.specs.Reader.{Reading}
use Rattle.record_text.specs.Text.{text_line, record_lines, record_text, IsTextOf, IsWhole}
use Rattle.record_text.specs.Nodes.{no_nodes, AreRead, lines_so_far}
use Rattle.record_text.specs.Progress.{fresh, HasRead, Stopped}
use Rattle.record_text.specs.Rest.{AreFew, StoppedFrom, HasRest}
use Rattle.record_text.specs.Source.{limit}
use Rattle.record_text.proofs.Grammar.{none_read}
use Rattle.record_text.proofs.Texts.{short_both}
use Rattle.record_text.proofs.Refusing.{claim_of, last_tree, ended}
use Rattle.std.specs.Result.{IsErrAnd}
use Rattle.record_text.proofs.Progress.{exit}
use Rattle.record_text.proofs.Rests.{so_far_read, record_is, no_nodes_read, stopped_later}
use Rattle.refute_check.specs.declared.check.Verified.{Verified}
use Rattle.refute_check.specs.declared.check.Verified.TheVariants as V
use Rattle.refute_check.specs.Walk.{place, marks_at, places_after}
use Rattle.refute_check.specs.Judged.{whole, Judges, HasWalked}
use Rattle.refute_check.specs.Answers.{Answers, SomeVerified, IsRefusedAt, marks_so_far, first_refused, refused_header, JudgesAll, HasJudged, verdict_of}
use Rattle.refute_check.proofs.Walks.{tree_marks, marks_both}

-- ---- the header

first_two : (c d : Bool) (bs : List Bool) → IsFirstFalse (true ∷ false ∷ c ∷ d ∷ bs) 1
first_two c d bs = record { there = refl; before = λ j less. let first : j ≡ 0 = omega (arith, less) in ap (λ (k : ℕ). slice_get (true ∷ false ∷ c ∷ d ∷ bs) k) first }

first_three : (d : Bool) (bs : List Bool) → IsFirstFalse (true ∷ true ∷ false ∷ d ∷ bs) 2
first_three d bs = record { there = refl; before = early }
  where
    early : (j : ℕ) → j < 2 → slice_get (true ∷ true ∷ false ∷ d ∷ bs) j ≡ Some true
    early zero less = refl
    early (suc zero) less = refl
    early (suc (suc j)) less = absurd (let never : ⊥ = omega (arith, less) in never)

first_four : (bs : List Bool) → IsFirstFalse (true ∷ true ∷ true ∷ false ∷ bs) 3
first_four bs = record { there = refl; before = early }
  where
    early : (j : ℕ) → j < 3 → slice_get (true ∷ true ∷ true ∷ false ∷ bs) j ≡ Some true
    early zero less = refl
    early (suc zero) less = refl
    early (suc (suc zero)) less = refl
    early (suc (suc (suc j))) less = absurd (let never : ⊥ = omega (arith, less) in never)

-- what a refusal of the header says
header_says : (a b c : Bool) (o : Option ℕ) (bs : List Bool) → first_refused a b c ≡ o → (line : ℕ) → o ≡ Some line
    → (k : ℕ) × IsFirstFalse (true ∷ a ∷ b ∷ c ∷ bs) k × (line ≡ k + 1)
header_says false b c o bs e line is = let n : 2 ≡ line = cc in (1, first_two b c bs, sym n)
header_says true false c o bs e line is = let n : 3 ≡ line = cc in (2, first_three c bs, sym n)
header_says true true false o bs e line is = let n : 4 ≡ line = cc in (3, first_four bs, sym n)
header_says true true true o bs e line is = let never : ⊥ = cc in absurd never

header_accepts : (a b c : Bool) → first_refused a b c ≡ None → (a ≡ true) × (b ≡ true) × (c ≡ true)
header_accepts false b c e = let never : ⊥ = cc in absurd never
header_accepts true false c e = let never : ⊥ = cc in absurd never
header_accepts true true false e = let never : ⊥ = cc in absurd never
header_accepts true true true e = (refl, refl, refl)

pub header_refused : (flat : Flat) (h : Header) (n : Nodes) (x : Reading) (a : Option (List ℕ)) (line : ℕ) → AreFew n x → refused_header flat h ≡ Some line → HasJudged flat h (Some line) n n x x a a
header_refused flat h n x a line few e = record {
  lines = [];
  nodes = no_nodes_read n x a few;
  judged = header_says (nat_eq h.slots (length flat.bounds.pairs)) (nat_eq h.rules (length flat.rules)) (nat_le h.room 1000000) (refused_header flat h) (marks_at flat h.room (whole flat) []) refl line e;
}

pub small_room : (flat : Flat) (h : Header) → refused_header flat h ≡ None → h.room ≤ 1000000
small_room flat h e = let f = header_accepts (nat_eq h.slots (length flat.bounds.pairs)) (nat_eq h.rules (length flat.rules)) (nat_le h.room 1000000) e in leb-true h.room 1000000 f.2

shifted : (bs : List Bool) (k : ℕ) → IsFirstFalse bs k → IsFirstFalse (true ∷ true ∷ true ∷ true ∷ bs) (k + 4)
shifted bs k f =
    let four : k + 1 + 1 + 1 + 1 ≡ k + 4 = omega arith in
    subst (λ (m : ℕ). IsFirstFalse (true ∷ true ∷ true ∷ true ∷ bs) m) four
    (one (true ∷ true ∷ true ∷ bs) (k + 1 + 1 + 1) (one (true ∷ true ∷ bs) (k + 1 + 1) (one (true ∷ bs) (k + 1) (one bs k f))))
  where
    one : (cs : List Bool) (j : ℕ) → IsFirstFalse cs j → IsFirstFalse (true ∷ cs) (j + 1)
    one cs j g = record { there = (let e : j + 1 ≡ suc j = omega arith in rw e g.there); before = early }
      where
        early : (i : ℕ) → i < j + 1 → slice_get (true ∷ cs) i ≡ Some true
        early zero less = refl
        early (suc i) less = g.before i (omega (arith, less))

-- the walk after a header that is accepted
pub walk_judges : (flat : Flat) (h : Header) (room : ℕ) (refused : Option ℕ) (n m : Nodes) (x y : Reading) (a b : Option (List ℕ)) → refused_header flat h ≡ None → room ≡ h.room → x.lines ≡ 4
    → HasWalked flat room refused n m x y a b → HasJudged flat h refused n m x y a b
walk_judges flat h room refused n m x y a b accepted same four w = record {
  lines = w.lines;
  nodes = w.nodes;
  judged = by_answer refused (subst (λ (r : ℕ). Judges flat r w.lines x.lines m y refused) same w.judged);
}
  where
    all : (nat_eq h.slots (length flat.bounds.pairs) ≡ true) × (nat_eq h.rules (length flat.rules) ≡ true) × (nat_le h.room 1000000 ≡ true)
    all = header_accepts (nat_eq h.slots (length flat.bounds.pairs)) (nat_eq h.rules (length flat.rules)) (nat_le h.room 1000000) accepted

    by_answer : (o : Option ℕ) → Judges flat h.room w.lines x.lines m y o → JudgesAll flat h w.lines m o
    by_answer None j = ((refl, (all.0, (all.1, (all.2, j.0)))), j.1)
    by_answer (Some line) j = (j.0 + 4, rw (all.0, all.1, all.2) (shifted (marks_at flat h.room (whole flat) w.lines) j.0 j.1), omega (arith, j.2, four))

-- ---- the answer

first_false_front : (bs cs : List Bool) (k : ℕ) → IsFirstFalse bs k → IsFirstFalse (bs ++ cs) k
first_false_front bs cs k f = record { there = front bs k false f.there; before = λ j less. front bs j true (f.before j less) }
  where
    front : (ds : List Bool) (j : ℕ) (b : Bool) → slice_get ds j ≡ Some b → slice_get (ds ++ cs) j ≡ Some b
    front [] j b e = let never : ⊥ = cc in absurd never
    front (d ∷ ds) zero b e = e
    front (d ∷ ds) (suc j) b e = front ds j b e

-- a tree's lines are accepted as the tree is
marks_are : (flat : Flat) (h : Header) (ls : List FullLine) (t : Tree) → full_lines t ≡ ls → marks flat (claim_of h t) t ≡ marks_so_far flat h ls
marks_are flat h ls t is = ap (λ (bs : List Bool). true ∷ nat_eq h.slots (length flat.bounds.pairs) ∷ nat_eq h.rules (length flat.rules) ∷ nat_le h.room 1000000 ∷ bs)
    (sym (append-nil (accepts flat h.room flat.bounds.pairs 0 t)) ∙ (sym (tree_marks flat h.room t (place flat.bounds.pairs 0) [] [])
    ∙ ap (marks_at flat h.room (whole flat)) (append-nil (full_lines t) ∙ is)))

module _ (flat : Flat) (h : Header) (refused : Option ℕ) (m k : Nodes) (x y : Reading) (first a b c : Option (List ℕ)) (r : HasRead (lines_so_far h []) fresh x first a)
    (j : HasJudged flat h refused (no_nodes h.undecided h.form) m x y a b) (rest : HasRest m k y b c) where
  abbrev lines : List FullLine
  lines = j.lines ++ rest.lines

  read : HasRead (lines_so_far h j.lines) fresh y first b
  read = so_far_read h [] j.lines (no_nodes h.undecided h.form) m x y first a b r j.nodes

  judged_nodes : AreRead j.lines m
  judged_nodes = j.nodes.nodes [] (none_read h.undecided h.form)

  nodes : AreRead lines k
  nodes = rest.nodes.nodes j.lines judged_nodes

  tree : (t : Tree) × (full_lines t ≡ lines) × (has_open t ≡ k.some_open) × (has_sum t ≡ k.some_sum) × (cuts_of t ≡ k.cuts)
  tree = last_tree lines k nodes rest.none_left

  abbrev claim : Record
  claim = claim_of h tree.0

  is_whole : IsWhole h.form claim tree.0
  is_whole = ended h lines k tree.0 nodes (record { undecided = rest.nodes.undecided ∙ j.nodes.undecided; form = rest.nodes.form ∙ j.nodes.form }) rest.none_left rest.is_end tree.2 tree.3

  lines_are : record_lines claim ≡ lines_so_far h j.lines ++ (map text_line rest.lines ++ T.End ∷ [])
  lines_are = record_is h j.lines rest.lines tree.0 tree.1 is_whole

  -- the text that was read, told or not
  own : IsTextOf (record_text claim) claim tree.0
  own = record {
    record_of = is_whole.record_of;
    short = subst AllShort (sym lines_are) (short_both (lines_so_far h j.lines) (map text_line rest.lines ++ T.End ∷ []) read.short
        (short_both (map text_line rest.lines) (T.End ∷ []) rest.nodes.read.short (tt, tt)));
    spelled = refl;
  }

  own_within : length (record_text claim) ≤ limit
  own_within = subst (λ (ls : List TextLine). length (text_of ls) ≤ limit) (sym lines_are) (rest.fits (lines_so_far h j.lines) first read)

  told : (text : List ℕ) → first ≡ Some text → IsTextOf text claim tree.0 × (length text ≤ limit)
  told text is =
      let e = rest.ends (lines_so_far h j.lines) first read text is in (
        record { record_of = is_whole.record_of; short = own.short; spelled = e.0 ∙ ap text_of (sym lines_are) },
        e.1,
      )

  -- every line was accepted
  accepted : AllTrue (marks_so_far flat h j.lines) → m.left ≡ 0 → IsAcceptedAs flat claim tree.0
  accepted all none = record {
    record_of = is_whole.record_of;
    accepted = subst AllTrue (sym (marks_are flat h lines tree.0 tree.1)) (subst (λ (ls : List FullLine). AllTrue (marks_so_far flat h ls)) same all);
  }
    where
      early : (t : Tree) × (full_lines t ≡ j.lines) × (has_open t ≡ m.some_open) × (has_sum t ≡ m.some_sum) × (cuts_of t ≡ m.cuts)
      early = last_tree j.lines m judged_nodes none

      nothing : [] ≡ rest.lines
      nothing = (same_full tree.0 early.0 [] rest.lines (append-nil (full_lines tree.0) ∙ (tree.1 ∙ ap (λ (ls : List FullLine). ls ++ rest.lines) (sym early.1)))).1

      same : j.lines ≡ lines
      same = sym (append-nil j.lines) ∙ ap (λ (ls : List FullLine). j.lines ++ ls) nothing

  answer_accepted : AllTrue (marks_so_far flat h j.lines) → m.left ≡ 0 → Answers flat (verdict_of None k) first
  answer_accepted all none = by_open k.some_open refl
    where
      by_open : (o : Bool) → k.some_open ≡ o → Answers flat (if o then V.Open k.cuts else V.Refuted) first
      by_open true e = λ text is. let t = told text is in (
        record {
          claim = claim;
          tree = tree.0;
          text_of = t.0;
          accepted = accepted all none;
          some_open = tree.2 ∙ e;
          cuts_are = tree.4;
        },
        t.1,
      )
      by_open false e = (
        refutation_empty flat claim (record { tree = tree.0; accepted = accepted all none; closed = tree.2 ∙ e }),
        λ text is. let t = told text is in (
          record {
            claim = claim;
            tree = tree.0;
            text_of = t.0;
            accepted = accepted all none;
            closed = tree.2 ∙ e;
          },
          t.1,
        ),
      )

  some_accepted : AllTrue (marks_so_far flat h j.lines) → m.left ≡ 0 → SomeVerified flat (verdict_of None k)
  some_accepted all none = by_open k.some_open refl
    where
      by_open : (o : Bool) → k.some_open ≡ o → SomeVerified flat (if o then V.Open k.cuts else V.Refuted)
      by_open true e = record {
        text = record_text claim;
        answer = record {
          claim = claim;
          tree = tree.0;
          text_of = own;
          accepted = accepted all none;
          some_open = tree.2 ∙ e;
          cuts_are = tree.4;
        };
        within = own_within;
      }
      by_open false e = record {
        text = record_text claim;
        answer = record {
          claim = claim;
          tree = tree.0;
          text_of = own;
          accepted = accepted all none;
          closed = tree.2 ∙ e;
        };
        within = own_within;
      }

  -- some line was refused
  marks_more : marks_so_far flat h lines ≡ marks_so_far flat h j.lines ++ marks_at flat h.room (places_after (whole flat) j.lines) rest.lines
  marks_more = ap (λ (bs : List Bool). true ∷ nat_eq h.slots (length flat.bounds.pairs) ∷ nat_eq h.rules (length flat.rules) ∷ nat_le h.room 1000000 ∷ bs)
      (marks_both flat h.room (whole flat) j.lines rest.lines)

  refused_at : (text : List ℕ) (line i : ℕ) → IsTextOf text claim tree.0 → IsFirstFalse (marks_so_far flat h j.lines) i → line ≡ i + 1 → IsRefusedAt flat text line
  refused_at text line i text_of_ f number = record {
    claim = claim;
    tree = tree.0;
    text_of = text_of_;
    before = i;
    number = number;
    first = subst (λ (bs : List Bool). IsFirstFalse bs i) (sym (marks_are flat h lines tree.0 tree.1 ∙ marks_more)) (first_false_front (marks_so_far flat h j.lines) _ i f);
  }

  some_refused : (line i : ℕ) → IsFirstFalse (marks_so_far flat h j.lines) i → line ≡ i + 1 → SomeVerified flat (verdict_of (Some line) k)
  some_refused line i f number = record {
    text = record_text claim;
    answer = refused_at (record_text claim) line i own f number;
    within = own_within;
  }

  answer_refused : (line i : ℕ) → IsFirstFalse (marks_so_far flat h j.lines) i → line ≡ i + 1 → Answers flat (verdict_of (Some line) k) first
  answer_refused line i f number = λ text is. let t = told text is in (refused_at text line i t.0 f number, t.1)

answer_by : (flat : Flat) (h : Header) (refused : Option ℕ) (m k : Nodes) (x y : Reading) (first a b c : Option (List ℕ)) → HasRead (lines_so_far h []) fresh x first a
    → HasJudged flat h refused (no_nodes h.undecided h.form) m x y a b → HasRest m k y b c → Answers flat (verdict_of refused k) first
answer_by flat h None m k x y first a b c r j rest = answer_accepted flat h None m k x y first a b c r j rest j.judged.0 j.judged.1
answer_by flat h (Some line) m k x y first a b c r j rest = answer_refused flat h (Some line) m k x y first a b c r j rest line j.judged.0 j.judged.1 j.judged.2

some_by : (flat : Flat) (h : Header) (refused : Option ℕ) (m k : Nodes) (x y : Reading) (first a b c : Option (List ℕ)) → HasRead (lines_so_far h []) fresh x first a
    → HasJudged flat h refused (no_nodes h.undecided h.form) m x y a b → HasRest m k y b c → SomeVerified flat (verdict_of refused k)
some_by flat h None m k x y first a b c r j rest = some_accepted flat h None m k x y first a b c r j rest j.judged.0 j.judged.1
some_by flat h (Some line) m k x y first a b c r j rest = some_refused flat h (Some line) m k x y first a b c r j rest line j.judged.0 j.judged.1 j.judged.2

-- the same in the words of `checked`
pub answer : (flat : Flat) (h : Header) (refused : Option ℕ) (n m k : Nodes) (v : Verified) (start x y : Reading) (first a b c : Option (List ℕ)) → start ≡ fresh → HasRead (lines_so_far h []) start x first a
    → n ≡ no_nodes h.undecided h.form → HasJudged flat h refused n m x y a b → HasRest m k y b c → v ≡ verdict_of refused k → Answers flat v first
answer flat h refused n m k v start x y first a b c start_is r n_is j rest v_is =
    subst (λ (w : Verified). Answers flat w first) (sym v_is)
    (answer_by flat h refused m k x y first a b c (subst (λ (s : Reading). HasRead (lines_so_far h []) s x first a) start_is r)
    (subst (λ (q : Nodes). HasJudged flat h refused q m x y a b) n_is j) rest)

pub some_answer : (flat : Flat) (h : Header) (refused : Option ℕ) (n m k : Nodes) (v : Verified) (start x y : Reading) (first a b c : Option (List ℕ)) → start ≡ fresh → HasRead (lines_so_far h []) start x first a
    → n ≡ no_nodes h.undecided h.form → HasJudged flat h refused n m x y a b → HasRest m k y b c → v ≡ verdict_of refused k → SomeVerified flat v
some_answer flat h refused n m k v start x y first a b c start_is r n_is j rest v_is =
    subst (SomeVerified flat) (sym v_is)
    (some_by flat h refused m k x y first a b c (subst (λ (s : Reading). HasRead (lines_so_far h []) s x first a) start_is r)
    (subst (λ (q : Nodes). HasJudged flat h refused q m x y a b) n_is j) rest)

-- an exit after the header
pub exit_after : {A : Type 0} (r : Result A VerifyStop) (stop : VerifyStop) (h : Header) (n : Nodes) (start x : Reading) (first a c : Option (List ℕ)) → start ≡ fresh → HasRead (lines_so_far h []) start x first a
    → n ≡ no_nodes h.undecided h.form → IsErrAnd r (λ e. e ≡ stop) → StoppedFrom stop n x a c → IfErr r (λ e. Stopped e first c)
exit_after r stop h n start x first a c start_is read_ n_is same s =
    exit r stop first c same (s h [] first (subst (λ (q : Reading). HasRead (lines_so_far h []) q x first a) start_is read_)
    (subst (AreRead []) (sym n_is) (none_read h.undecided h.form)) (record { undecided = ap (λ (q : Nodes). q.undecided) n_is; form = ap (λ (q : Nodes). q.form) n_is }))

-- and after the walk
pub exit_later : {A : Type 0} (flat : Flat) (r : Result A VerifyStop) (stop : VerifyStop) (h : Header) (refused : Option ℕ) (n m : Nodes) (start x y : Reading) (first a b c : Option (List ℕ)) → start ≡ fresh
    → HasRead (lines_so_far h []) start x first a → n ≡ no_nodes h.undecided h.form → HasJudged flat h refused n m x y a b → IsErrAnd r (λ e. e ≡ stop) → StoppedFrom stop m y b c → IfErr r (λ e. Stopped e first c)
exit_later flat r stop h refused n m start x y first a b c start_is read_ n_is j same s =
    exit_after r stop h n start x first a c start_is read_ n_is same (stopped_later j.lines n m x y a b c stop j.nodes s)

pub none_of : (o p : Option ℕ) → o ≡ p → ((line : ℕ) → o ≡ Some line → ⊥) → p ≡ None
none_of None p e f = sym e
none_of (Some line) p e f = absurd (f line refl)
