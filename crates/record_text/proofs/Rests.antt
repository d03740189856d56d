-- Reading the cuts and leaves of a record and its end.
use Rattle.std.proofs.Common.{◌≡◌, refl, sym, ap, ◌∙◌, subst, ℕ, ◌+◌, ◌<◌, ◌≤◌, true, false, Bool, not, ◌&&◌, if◌then◌else◌, ◌≢◌, List, [], ◌∷◌, ◌++◌, length, map, Option, Some, Result, Ok, Err, IfErr, OnOk, arith, append_assoc}
use Rattle.std.specs.Result.{IsErrAnd}
use Rattle.std.proofs.lemmas.List.{append-nil, length-append, map-append}
use Rattle.std.proofs.lemmas.Bool.{false≢true}
use Rattle.outside_io.specs.Files.{NothingLeft}
use Rattle.record_trees.specs.Record.{Tree, FullLine, full_lines}
use Rattle.record_text.specs.TextLines.{TextLine}
use Rattle.record_text.specs.TextLines as T
use Rattle.record_text.specs.declared.found.Wanted.{Wanted}
use Rattle.record_text.specs.declared.found.Wanted.TheVariants as W
use Rattle.record_text.specs.declared.stop.VerifyStop.{VerifyStop}
use Rattle.record_text.specs.declared.stop.VerifyStop.TheVariants as V
use Rattle.record_text.specs.declared.nodes.Nodes.{Nodes}
use Rattle.record_text.specs.declared.header.Header.{Header}
use Rattle.record_text.specs.Lines.{text_of, AllShort}
use Rattle.record_text.specs.Source.{limit, rest_of}
use Rattle.record_text.specs.Reader.{wants, NoneWanted, Reading, GivesLine, Stops}
use Rattle.record_text.specs.declared.line.Form.{Form}
use Rattle.record_text.specs.Text.{text_line, lines_in, record_lines, IsWhole, IsFirstBadLine}
use Rattle.record_text.specs.Nodes.{lacks_leaf, wanted_after, counted, AreRead, IsHeadOf, lines_so_far}
use Rattle.record_text.specs.Progress.{fresh, HasRead}
use Rattle.record_text.specs.Rest.{node_line, AreFew, GivesNode, HasNodes, StoppedFrom, HasRest}
use Rattle.record_text.proofs.Grammar.{node_text, read_more}
use Rattle.record_text.proofs.Refusing.{lines_are_in, so_far_begins, node_next, end_next, no_end_so_far, none_left, last_tree, ended, claim_of, bad_after}
use Rattle.record_text.proofs.Progress.{has_read_none, has_read_more, has_read_then, rest_then, fresh_rest, stopped}
use Rattle.record_text.proofs.Reading.{too_long_before, within_before}

pub no_nodes_read : (n : Nodes) (r : Reading) (l : Option (List ℕ)) → AreFew n r → HasNodes [] n n r r l l
no_nodes_read n r l few = record {
  read = has_read_none r l;
  nodes = λ before a. subst (λ (ls : List FullLine). AreRead ls n) (sym (append-nil before)) a;
  undecided = refl;
  form = refl;
  few = few;
}

-- some cuts and leaves were read
pub record SomeNodes (n m : Nodes) (x y : Reading) (a b : Option (List ℕ)) : Type 0 where
  pub lines : List FullLine
  pub has : HasNodes lines n m x y a b

kept : (n : Nodes) (line : TextLine) → ((counted n line).undecided ≡ n.undecided) × ((counted n line).form ≡ n.form)
kept n (T.Head u f) = (refl, refl)
kept n (T.Slots k) = (refl, refl)
kept n (T.Rules k) = (refl, refl)
kept n (T.Room k) = (refl, refl)
kept n (T.Cut side slot v) = (refl, refl)
kept n (T.Close rule) = (refl, refl)
kept n (T.Sum picks) = (refl, refl)
kept n T.Open = (refl, refl)
kept n T.End = (refl, refl)

pub nodes_more : (lines : List FullLine) (line : TextLine) (n m k : Nodes) (x y z : Reading) (a b c : Option (List ℕ)) → HasNodes lines n m x y a b → 0 < m.left → GivesNode line m k y z b c
    → HasNodes (lines ++ node_line line ∷ []) n k x z a c
nodes_more lines line n m k x y z a b c h some_ g = record {
  read = subst (λ (ls : List TextLine). HasRead ls x z a c) lines_are (has_read_more (map text_line lines) line (W.Node m.undecided m.form) x y z a b c h.read g.gives);
  nodes = λ before r. subst (λ (q : Nodes). AreRead (before ++ (lines ++ node_line line ∷ [])) q) (sym g.counts)
      (subst (λ (ls : List FullLine). AreRead ls (counted m line)) (append_assoc before lines (node_line line ∷ []))
      (read_more (before ++ lines) m line (h.nodes before r) some_ g.gives.is_wanted));
  undecided = ap (λ (q : Nodes). q.undecided) g.counts ∙ ((kept m line).0 ∙ h.undecided);
  form = ap (λ (q : Nodes). q.form) g.counts ∙ ((kept m line).1 ∙ h.form);
  few = g.few;
}
  where
    lines_are : map text_line lines ++ line ∷ [] ≡ map text_line (lines ++ node_line line ∷ [])
    lines_are = sym (map-append text_line lines (node_line line ∷ []) ∙ ap (λ (l : TextLine). map text_line lines ++ l ∷ []) (node_text m.undecided m.form line g.gives.is_wanted))

-- the lines so far, after a header and the cuts and leaves before
so_far : (h : Header) (before lines : List FullLine) → lines_so_far h (before ++ lines) ≡ lines_so_far h before ++ map text_line lines
so_far h before lines = ap (λ (ls : List TextLine). T.Head h.undecided h.form ∷ T.Slots h.slots ∷ T.Rules h.rules ∷ T.Room h.room ∷ ls) (map-append text_line before lines)

pub so_far_read : (h : Header) (before lines : List FullLine) (n m : Nodes) (x y : Reading) (first a b : Option (List ℕ)) → HasRead (lines_so_far h before) fresh x first a → HasNodes lines n m x y a b
    → HasRead (lines_so_far h (before ++ lines)) fresh y first b
so_far_read h before lines n m x y first a b r g =
    subst (λ (ls : List TextLine). HasRead ls fresh y first b) (sym (so_far h before lines)) (has_read_then (lines_so_far h before) (map text_line lines) fresh x y first a b r g.read)

head_kept : (h : Header) (n m : Nodes) (lines : List FullLine) (x y : Reading) (a b : Option (List ℕ)) → HasNodes lines n m x y a b → IsHeadOf h n → IsHeadOf h m
head_kept h n m lines x y a b g same = record { undecided = g.undecided ∙ same.undecided; form = g.form ∙ same.form }

-- no cut or leaf came, or no end
pub stopped_node : (lines : List FullLine) (n m : Nodes) (x y : Reading) (a b c : Option (List ℕ)) (stop : VerifyStop) → HasNodes lines n m x y a b → 0 < m.left
    → Stops stop (NoneWanted (W.Node m.undecided m.form)) y b c → StoppedFrom stop n x a c
stopped_node lines n m x y a b c stop g some_ s h before first r nodes same =
    let now = so_far_read h before lines n m x y first a b r g in
    let read = g.nodes before nodes in
    let kind = head_kept h n m lines x y a b g same in
    stopped (lines_so_far h (before ++ lines)) (W.Node m.undecided m.form) y first b c now (so_far_begins h (before ++ lines) m read kind now.short) (no_end_so_far h (before ++ lines))
    (λ l may. node_next h (before ++ lines) m read kind some_ l may) stop s

pub stopped_end : (lines : List FullLine) (n m : Nodes) (x y : Reading) (a b c : Option (List ℕ)) (stop : VerifyStop) → HasNodes lines n m x y a b → m.left ≡ 0
    → Stops stop (NoneWanted (wanted_after m)) y b c → StoppedFrom stop n x a c
stopped_end lines n m x y a b c stop g none s h before first r nodes same =
    let now = so_far_read h before lines n m x y first a b r g in
    let read = g.nodes before nodes in
    let kind = head_kept h n m lines x y a b g same in
    stopped (lines_so_far h (before ++ lines)) (wanted_after m) y first b c now (so_far_begins h (before ++ lines) m read kind now.short) (no_end_so_far h (before ++ lines))
    (λ l may. end_next h (before ++ lines) m read kind none l may) stop s

-- the lines of a whole record
pub record_is : (h : Header) (before lines : List FullLine) (t : Tree) → full_lines t ≡ before ++ lines → IsWhole h.form (claim_of h t) t
    → record_lines (claim_of h t) ≡ lines_so_far h before ++ (map text_line lines ++ T.End ∷ [])
record_is h before lines t full whole = ap (λ (f : Form). lines_in f (claim_of h t)) (sym whole.form_is) ∙ lines_are_in h before lines t full

pub exit_from : {A : Type 0} (r : Result A VerifyStop) (stop : VerifyStop) (n : Nodes) (x : Reading) (a c : Option (List ℕ)) → IsErrAnd r (λ e. e ≡ stop) → StoppedFrom stop n x a c
    → IfErr r (λ e. StoppedFrom e n x a c)
exit_from (Ok v) stop n x a c h s = absurd h
exit_from (Err e) stop n x a c h s = subst (λ (v : VerifyStop). StoppedFrom v n x a c) (sym h) s

-- ---- the end

wants_nothing : (line : TextLine) → wants W.Nothing line ≡ true → line ≡ T.End
wants_nothing (T.Head u f) h = absurd (false≢true h)
wants_nothing (T.Slots k) h = absurd (false≢true h)
wants_nothing (T.Rules k) h = absurd (false≢true h)
wants_nothing (T.Room k) h = absurd (false≢true h)
wants_nothing (T.Cut side slot v) h = absurd (false≢true h)
wants_nothing (T.Close rule) h = absurd (false≢true h)
wants_nothing (T.Sum picks) h = absurd (false≢true h)
wants_nothing T.Open h = absurd (false≢true h)
wants_nothing T.End h = refl

wants_end : (line : TextLine) → wants W.End line ≡ true → line ≡ T.End
wants_end (T.Head u f) h = absurd (false≢true h)
wants_end (T.Slots k) h = absurd (false≢true h)
wants_end (T.Rules k) h = absurd (false≢true h)
wants_end (T.Room k) h = absurd (false≢true h)
wants_end (T.Cut side slot v) h = absurd (false≢true h)
wants_end (T.Close rule) h = absurd (false≢true h)
wants_end (T.Sum picks) h = absurd (false≢true h)
wants_end T.Open h = absurd (false≢true h)
wants_end T.End h = refl

end_line : (m : Nodes) (line : TextLine) → m.left ≡ 0 → wants (wanted_after m) line ≡ true → line ≡ T.End
end_line m line none h = by_test (lacks_leaf m) (rw (none_left m none) at h)
  where
    by_test : (b : Bool) → wants (if b then W.Nothing else W.End) line ≡ true → line ≡ T.End
    by_test true w = wants_nothing line w
    by_test false w = wants_end line w

-- a record's end was read
end_read : (lines : List FullLine) (n m : Nodes) (x y z : Reading) (a b c : Option (List ℕ)) (line : TextLine) → HasNodes lines n m x y a b → m.left ≡ 0 → GivesLine line (wanted_after m) y z b c
    → (before : List TextLine) (first : Option (List ℕ)) → HasRead before fresh x first a → HasRead (before ++ (map text_line lines ++ T.End ∷ [])) fresh z first c
end_read lines n m x y z a b c line g none end_ before first r =
    let is : line ≡ T.End = end_line m line none end_.is_wanted in
    let more : HasRead (map text_line lines ++ line ∷ []) x z a c = has_read_more (map text_line lines) line (wanted_after m) x y z a b c g.read end_ in
    has_read_then before (map text_line lines ++ T.End ∷ []) fresh x z first a c r (subst (λ (l : TextLine). HasRead (map text_line lines ++ l ∷ []) x z a c) is more)

pub rest_read : (lines : List FullLine) (n m : Nodes) (x y z : Reading) (a b c d : Option (List ℕ)) (line : TextLine) → HasNodes lines n m x y a b → m.left ≡ 0 → GivesLine line (wanted_after m) y z b c
    → z.unread.given ≤ limit → ((rest : List ℕ) → rest_of z.unread c ≡ Some rest → rest ≡ []) → NothingLeft d → HasRest n m x a d
rest_read lines n m x y z a b c d line g none end_ few empty nothing = record {
  lines = lines;
  end = y;
  left_end = b;
  nodes = g;
  none_left = none;
  is_end = subst (λ (l : TextLine). wants (wanted_after m) l ≡ true) (end_line m line none end_.is_wanted) end_.is_wanted;
  ends = λ before first r text is.
      let whole = end_read lines n m x y z a b c line g none end_ before first r in
      let t = rest_then (text_of (before ++ (map text_line lines ++ T.End ∷ []))) z first c text whole.gives is in
      let all : text ≡ text_of (before ++ (map text_line lines ++ T.End ∷ [])) =
      t.2 ∙ (ap (λ (bs : List ℕ). text_of (before ++ (map text_line lines ++ T.End ∷ [])) ++ bs) (empty t.0 t.1) ∙ append-nil (text_of (before ++ (map text_line lines ++ T.End ∷ [])))) in
      (all, omega (arith, few, whole.gives.given, ap (λ (bs : List ℕ). length bs) all));
  fits = λ before first r. let whole = end_read lines n m x y z a b c line g none end_ before first r in omega (arith, few, whole.gives.given);
  nothing = nothing;
}

-- more came after the end
pub stopped_after : (lines : List FullLine) (n m : Nodes) (x y z : Reading) (a b c d : Option (List ℕ)) (line : TextLine) (stop : VerifyStop) → HasNodes lines n m x y a b → m.left ≡ 0
    → GivesLine line (wanted_after m) y z b c → Stops stop (λ (rest : List ℕ). rest ≢ []) z c d → StoppedFrom stop n x a d
stopped_after lines n m x y z a b c d line V.Shelf g none end_ s h before first r nodes same = tt
stopped_after lines n m x y z a b c d line V.TooLong g none end_ s h before first r nodes same = λ text e.
    let whole = end_read lines n m x y z a b c line g none end_ (lines_so_far h before) first r in
    omega (arith, too_long_before _ fresh.unread z.unread first c whole.gives s text (fresh_rest first text e))
stopped_after lines n m x y z a b c d line (V.BadLine k) g none end_ s h before first r nodes same =
    let whole = end_read lines n m x y z a b c line g none end_ (lines_so_far h before) first r in
    let is_end = subst (λ (l : TextLine). wants (wanted_after m) l ≡ true) (end_line m line none end_.is_wanted) end_.is_wanted in
    let all = g.nodes before nodes in
    let tree = last_tree (before ++ lines) m all none in
    let is_whole = ended h (before ++ lines) m tree.0 all (head_kept h n m lines x y a b g same) none is_end tree.2 tree.3 in
    let lines_are = record_is h before lines tree.0 tree.1 is_whole in
    let short = subst AllShort (sym lines_are) whole.short in
    let number : length (record_lines (claim_of h tree.0)) + 1 ≡ k = omega (arith, s.0.number, whole.counted, ap (λ (ls : List TextLine). length ls) lines_are) in
    let bad : (text rest : List ℕ) → text ≡ text_of (lines_so_far h before ++ (map text_line lines ++ T.End ∷ [])) ++ rest → rest ≢ [] → IsFirstBadLine text k =
    λ text rest spelled more. subst (IsFirstBadLine text) number
    (bad_after (claim_of h tree.0) tree.0 text rest is_whole.record_of short (spelled ∙ ap (λ (ls : List TextLine). text_of ls ++ rest) (sym lines_are)) more) in (
      λ text e.
          let t = rest_then _ z first c text whole.gives e in (
            bad text t.0 t.2 (s.0.because t.0 t.1),
            omega (arith, within_before _ fresh.unread z.unread first c whole.gives s.0.within text (fresh_rest first text e)),
          ),
      s.1,
      record {
        text = text_of (lines_so_far h before ++ (map text_line lines ++ T.End ∷ [])) ++ s.0.may_come.bytes;
        bad = bad _ s.0.may_come.bytes refl s.0.may_come.because;
        within = omega (arith, s.0.may_come.few, whole.gives.given, length-append (text_of (lines_so_far h before ++ (map text_line lines ++ T.End ∷ []))) s.0.may_come.bytes);
      },
    )
stopped_after lines n m x y z a b c d line V.Memory g none end_ s h before first r nodes same = tt

-- and the same after more cuts and leaves
pub stopped_later : (lines : List FullLine) (n m : Nodes) (x y : Reading) (a b c : Option (List ℕ)) (stop : VerifyStop) → HasNodes lines n m x y a b → StoppedFrom stop m y b c → StoppedFrom stop n x a c
stopped_later lines n m x y a b c stop g s h before first r nodes same =
    s h (before ++ lines) first (so_far_read h before lines n m x y first a b r g) (g.nodes before nodes) (head_kept h n m lines x y a b g same)

-- ---- on results

pub on_ok_both : {A : Type 0} (r : Result A VerifyStop) (P Q R : Type 0) → (P → Q → R) → OnOk r P → OnOk r Q → OnOk r R
on_ok_both (Ok a) P Q R f p q = f p q
on_ok_both (Err e) P Q R f p q = tt

pub as_wanted : (w : Wanted) (m : Nodes) (line : TextLine) (y z : Reading) (b c : Option (List ℕ)) → w ≡ wanted_after m → GivesLine line w y z b c → GivesLine line (wanted_after m) y z b c
as_wanted w m line y z b c is g = subst (λ (v : Wanted). GivesLine line v y z b c) is g

pub stop_wanted : (w : Wanted) (m : Nodes) (stop : VerifyStop) (y : Reading) (b c : Option (List ℕ)) → w ≡ wanted_after m → Stops stop (NoneWanted w) y b c → Stops stop (NoneWanted (wanted_after m)) y b c
stop_wanted w m stop y b c is s = subst (λ (v : Wanted). Stops stop (NoneWanted v) y b c) is s
