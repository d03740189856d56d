-- The walk over the lines of a record, line by line.
use Rattle.std.proofs.Common.{◌≡◌, refl, sym, ap, ◌∙◌, subst, ℕ, zero, suc, ◌<◌, Bool, true, false, List, [], ◌∷◌, ◌++◌, length, get_or, slice_get, Option, Some, None, arith}
use Rattle.std.proofs.lemmas.Bool.{false≢true}
use Rattle.std.proofs.lemmas.List.{length-map}
use Rattle.box_eval.specs.declared.cut.Side.TheVariants as Side
use Rattle.box_eval.specs.Box.{IsInside}
use Rattle.record_text.specs.Text.{text_line}
use Rattle.box_eval.specs.declared.flat.Flat.{Flat}
use Rattle.record_trees.specs.Record.{FullLine, AllTrue, IsFirstFalse}
use Rattle.box_eval.proofs.Parts.{inside_self}
use Rattle.bound_trail.specs.History.{History, mark_of, present}
use Rattle.record_text.specs.declared.line.Form.{Form}
use Rattle.linear_sums.specs.declared.pick.Pick.{Pick}
use Rattle.record_text.specs.declared.line.ReadLine.{ReadLine}
use Rattle.record_text.specs.TextLines.{TextLine}
use Rattle.record_text.specs.TextLines as T
use Rattle.record_text.specs.declared.found.Wanted.TheVariants as W
use Rattle.record_text.specs.declared.nodes.Nodes.{Nodes}
use Rattle.record_text.specs.Reader.{wants, Reading}
use Rattle.record_text.specs.Nodes.{no_nodes, counted}
use Rattle.record_text.specs.Rest.{node_line, AreFew, GivesNode, HasNodes}
use Rattle.record_text.specs.WholeLines.{whole_line}
use Rattle.record_text.proofs.Rests.{no_nodes_read, nodes_more}
use Rattle.refute_check.specs.Stack.{Stacked}
use Rattle.refute_check.specs.Walk.{Place, place, mark, next, marks_at, places_after, untried, places_now, IsStanding, trail_after, stack_after}
use Rattle.refute_check.specs.Judged.{whole, HasWalked}
use Rattle.refute_check.proofs.Walks.{Stepped, stepped, marks_more, places_more}

-- every line so far is accepted, and the trail and the stack stand for the places that are left
pub record IsWalking (flat : Flat) (room : ℕ) (n m : Nodes) (x y : Reading) (a b : Option (List ℕ)) (trail : History) (stack : Stacked) : Type 0 where
  pub lines : List FullLine
  pub nodes : HasNodes lines n m x y a b
  pub accepted : AllTrue (marks_at flat room (whole flat) lines)
  pub left_is : m.left ≡ length (places_after (whole flat) lines)
  pub places : 0 < m.left → places_now trail stack.items ≡ places_after (whole flat) lines
  pub standing : IsStanding flat.bounds.pairs trail stack.items
  pub trail_room : trail.room ≡ room
  pub stack_room : stack.room ≡ room

pub walk_starts : (flat : Flat) (room : ℕ) (undecided : Bool) (form : Form) (n : Nodes) (x : Reading) (a : Option (List ℕ)) (trail : History) (stack : Stacked) → AreFew n x → n ≡ no_nodes undecided form
    → trail ≡ record { boxes = flat.bounds.pairs ∷ []; room = room } → stack ≡ record { items = []; room = room } → IsWalking flat room n n x x a a trail stack
walk_starts flat room undecided form n x a trail stack few n_is trail_is stack_is =
    subst (λ (h : History). IsWalking flat room n n x x a a h stack) (sym trail_is)
    (subst (λ (s : Stacked). IsWalking flat room n n x x a a (record { boxes = flat.bounds.pairs ∷ []; room = room }) s) (sym stack_is) record {
      lines = [];
      nodes = no_nodes_read n x a few;
      accepted = tt;
      left_is = ap (λ (k : Nodes). k.left) n_is;
      places = λ _. refl;
      standing = record {
        some = omega arith;
        few = omega arith;
        inside = λ k less. let first : k ≡ 0 = omega (arith, less) in subst (λ (j : ℕ). IsInside (get_or (flat.bounds.pairs ∷ []) j []) flat.bounds.pairs) (sym first) (inside_self flat.bounds.pairs);
        wait = tt;
      };
      trail_room = refl;
      stack_room = refl;
    })

-- ---- how many places are left

left_cut : (p : Place) (ps : List Place) (undecided : Bool) (form : Form) (line : TextLine) → wants (W.Node undecided form) line ≡ true → (n : Nodes) → n.left ≡ length (p ∷ ps)
    → (counted n line).left ≡ length (next p (node_line line).line ++ ps)
left_cut p ps undecided form (T.Cut Side.Low slot value) h n e = omega (arith, e)
left_cut p ps undecided form (T.Cut Side.High slot value) h n e = omega (arith, e)
left_cut p ps undecided form (T.Close rule) h n e = omega (arith, e)
left_cut p ps undecided form (T.Sum picks) h n e = omega (arith, e)
left_cut p ps undecided form T.Open h n e = omega (arith, e)
left_cut p ps undecided form (T.Head u f) h n e = absurd (false≢true h)
left_cut p ps undecided form (T.Slots k) h n e = absurd (false≢true h)
left_cut p ps undecided form (T.Rules k) h n e = absurd (false≢true h)
left_cut p ps undecided form (T.Room k) h n e = absurd (false≢true h)
left_cut p ps undecided form T.End h n e = absurd (false≢true h)

all_true_both : (bs cs : List Bool) → AllTrue bs → AllTrue cs → AllTrue (bs ++ cs)
all_true_both [] cs p q = q
all_true_both (b ∷ bs) cs p q = (p.0, all_true_both bs cs p.1 q)

-- a line that was read, with rules that are those of the reader
pub node_with : (ps qs : List Pick) (line : ReadLine) (n m : Nodes) (x y : Reading) (a b : Option (List ℕ)) → ps ≡ qs → GivesNode (whole_line qs line) n m x y a b → GivesNode (whole_line ps line) n m x y a b
node_with ps qs line n m x y a b same g = subst (λ (rs : List Pick). GivesNode (whole_line rs line) n m x y a b) (sym same) g

-- a line that is accepted
pub walk_more : (flat : Flat) (room : ℕ) (line : TextLine) (n m k : Nodes) (x y z : Reading) (a b c : Option (List ℕ)) (trail trail' : History) (stack stack' : Stacked)
    → IsWalking flat room n m x y a b trail stack → 0 < m.left → GivesNode line m k y z b c
    → true ≡ mark flat trail.room (place (present trail) (mark_of trail)) (node_line line)
    → trail' ≡ trail_after trail stack.items (node_line line).line → stack' ≡ record { items = stack_after trail stack.items (node_line line).line; room = stack.room }
    → IsWalking flat room n k x z a c trail' stack'
walk_more flat room line n m k x y z a b c trail trail' stack stack' w some_ g accepts trail_is stack_is =
    subst (λ (h : History). IsWalking flat room n k x z a c h stack') (sym trail_is)
    (subst (λ (s : Stacked). IsWalking flat room n k x z a c (trail_after trail stack.items (node_line line).line) s) (sym stack_is) record {
      lines = w.lines ++ node_line line ∷ [];
      nodes = nodes_more w.lines line n m k x y z a b c w.nodes some_ g;
      accepted = subst AllTrue (sym (marks_more flat room (whole flat) w.lines (node_line line))) (all_true_both (marks_at flat room (whole flat) w.lines) _ w.accepted
          (subst (λ (ps : List Place). AllTrue (marks_at flat room ps (node_line line ∷ []))) places_are (room_mark, tt)));
      left_is = ap (λ (q : Nodes). q.left) g.counts ∙ (left_cut here (untried trail.boxes stack.items) m.undecided m.form line g.gives.is_wanted m left_now ∙ ap (λ (ps : List Place). length ps) after);
      places = λ more. st.places (omega (arith, more, ap (λ (q : Nodes). q.left) g.counts, left_cut here (untried trail.boxes stack.items) m.undecided m.form line g.gives.is_wanted m left_now)) ∙ after;
      standing = st.standing;
      trail_room = st.room ∙ w.trail_room;
      stack_room = w.stack_room;
    })
  where
    here : Place
    here = place (present trail) (mark_of trail)

    places_are : places_now trail stack.items ≡ places_after (whole flat) w.lines
    places_are = w.places some_

    left_now : m.left ≡ length (places_now trail stack.items)
    left_now = w.left_is ∙ ap (λ (ps : List Place). length ps) (sym places_are)

    room_mark : mark flat room here (node_line line) ≡ true
    room_mark = ap (λ (r : ℕ). mark flat r here (node_line line)) (sym w.trail_room) ∙ sym accepts

    st : Stepped flat.bounds.pairs trail stack.items (node_line line).line (next here (node_line line).line ++ untried trail.boxes stack.items)
    st = stepped flat.bounds.pairs flat trail stack.items (node_line line).picks (node_line line).line w.standing (sym accepts)

    after : next here (node_line line).line ++ untried trail.boxes stack.items ≡ places_after (whole flat) (w.lines ++ node_line line ∷ [])
    after = ap (λ (ps : List Place). places_after ps (node_line line ∷ [])) places_are ∙ sym (places_more (whole flat) w.lines (node_line line))

-- ---- the end of the walk

pub walk_ends : (flat : Flat) (room : ℕ) (n m : Nodes) (x y : Reading) (a b : Option (List ℕ)) (trail : History) (stack : Stacked) → IsWalking flat room n m x y a b trail stack → m.left ≡ 0
    → HasWalked flat room None n m x y a b
walk_ends flat room n m x y a b trail stack w none = record { lines = w.lines; nodes = w.nodes; judged = (w.accepted, none) }

all_true_at : (bs : List Bool) (j : ℕ) → AllTrue bs → j < length bs → slice_get bs j ≡ Some true
all_true_at [] j h less = absurd (let never : ⊥ = omega (arith, less) in never)
all_true_at (b ∷ bs) zero h less = ap Some h.0
all_true_at (b ∷ bs) (suc j) h less = all_true_at bs j h.1 (omega (arith, less))

first_false : (bs : List Bool) → AllTrue bs → IsFirstFalse (bs ++ false ∷ []) (length bs)
first_false bs h = record { there = last bs; before = λ j less. early bs j less h }
  where
    last : (cs : List Bool) → slice_get (cs ++ false ∷ []) (length cs) ≡ Some false
    last [] = refl
    last (c ∷ cs) = last cs

    early : (cs : List Bool) (j : ℕ) → j < length cs → AllTrue cs → slice_get (cs ++ false ∷ []) j ≡ Some true
    early [] j less t = absurd (let never : ⊥ = omega (arith, less) in never)
    early (c ∷ cs) zero less t = ap Some t.0
    early (c ∷ cs) (suc j) less t = early cs j (omega (arith, less)) t.1

-- as many marks as lines, while all are accepted and places are left
pub length_marks : (flat : Flat) (room : ℕ) (ps : List Place) (ls : List FullLine) → 0 < length (places_after ps ls) → length (marks_at flat room ps ls) ≡ length ls
length_marks flat room ps [] some_ = refl
length_marks flat room [] (l ∷ ls) some_ = absurd (let never : ⊥ = omega (arith, some_) in never)
length_marks flat room (p ∷ ps) (l ∷ ls) some_ = ap suc (length_marks flat room (next p l.line ++ ps) ls some_)

-- a line that isn't accepted
pub walk_refuses : (flat : Flat) (room : ℕ) (line : TextLine) (n m k : Nodes) (x y z : Reading) (a b c : Option (List ℕ)) (trail : History) (stack : Stacked) (number : ℕ)
    → IsWalking flat room n m x y a b trail stack → 0 < m.left → GivesNode line m k y z b c
    → false ≡ mark flat trail.room (place (present trail) (mark_of trail)) (node_line line) → number ≡ z.lines → HasWalked flat room (Some number) n k x z a c
walk_refuses flat room line n m k x y z a b c trail stack number w some_ g refuses is = record {
  lines = w.lines ++ node_line line ∷ [];
  nodes = nodes_more w.lines line n m k x y z a b c w.nodes some_ g;
  judged = (
    length (marks_at flat room (whole flat) w.lines),
    subst (λ (bs : List Bool). IsFirstFalse bs (length (marks_at flat room (whole flat) w.lines))) (sym marks_are) (first_false (marks_at flat room (whole flat) w.lines) w.accepted),
    omega (arith, is, g.gives.counted, w.nodes.read.counted, length_marks flat room (whole flat) w.lines places_left, length-map w.lines text_line),
  );
}
  where
    places_left : 0 < length (places_after (whole flat) w.lines)
    places_left = omega (arith, some_, w.left_is)

    refused : mark flat room (place (present trail) (mark_of trail)) (node_line line) ≡ false
    refused = ap (λ (r : ℕ). mark flat r (place (present trail) (mark_of trail)) (node_line line)) (sym w.trail_room) ∙ sym refuses

    marks_are : marks_at flat room (whole flat) (w.lines ++ node_line line ∷ []) ≡ marks_at flat room (whole flat) w.lines ++ false ∷ []
    marks_are = marks_more flat room (whole flat) w.lines (node_line line)
        ∙ ap (λ (bs : List Bool). marks_at flat room (whole flat) w.lines ++ bs)
        (ap (λ (ps : List Place). marks_at flat room ps (node_line line ∷ [])) (sym (w.places some_)) ∙ ap (λ (t : Bool). t ∷ []) refused)
