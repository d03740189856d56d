-- Decisions, and ways back from them.
use Rattle.std.proofs.Common.{◌≡◌, refl, sym, ap, ap₂, ◌∙◌, subst, ℕ, ◌+◌, ◌<◌, ◌≤◌, true, false, List, [], ◌∷◌, length, take, Some, arith}
use Rattle.wake_ring.specs.Queue.{Queue}
use Rattle.bound_trail.specs.History.{History, present, mark_of, with_box, back_to}
use Rattle.box_eval.specs.declared.bounds.Pair.{Pair}
use Rattle.box_eval.specs.declared.cut.Cut.{Cut}
use Rattle.box_eval.specs.declared.flat.Flat.{Flat}
use Rattle.search_laws.specs.linear_sums.declared.pick.Pick.{Pick}
use Rattle.search_laws.specs.record_trees.declared.record.Line.{Line}
use Rattle.search_laws.specs.record_trees.declared.record.Line.TheVariants as L
use Rattle.box_eval.specs.Box.{IsCutOf, first_part, second_part}
use Rattle.search_laws.specs.record_trees.Record.{cut_line, may_close, may_add}
use Rattle.search_laws.specs.record_trees.Guided.{IsSettled}
use Rattle.search_plans.specs.declared.wish.Entry.{Entry}
use Rattle.search_plans.specs.Plans.{next_entry}
use Rattle.search_plans.specs.Wishes.{wished}
use Rattle.box_eval.proofs.Parts.{first_part_inside}
use Rattle.search_laws.specs.declared.decision.Decision.{Decision}
use Rattle.search_laws.specs.Answers.{IsRefutedAnswer, claim_of}
use Rattle.search_laws.specs.State.{State, IsLively, IsClosed, IsStanding, decided_box}
use Rattle.search_laws.proofs.Ends.{refuted}
use Rattle.search_laws.proofs.Lists.{last_front}
use Rattle.search_laws.proofs.Lively.{settled_all}
use Rattle.search_laws.proofs.Steps.{decides, closes, closes_sum, returns_to}
use Rattle.seeded_search.specs.declared.task.Task.{Task}
use Rattle.seeded_search.specs.declared.work.Work.{Work}
use Rattle.seeded_search.specs.Added.{added}
use Rattle.seeded_search.specs.Draws.{number_of}
use Rattle.seeded_search.specs.Listed.{rules_at}
use Rattle.seeded_search.specs.Rooms.{Marked, Drawing, decision_of}
use Rattle.seeded_search.specs.Runs.{choice, state_of, IsRoomy, Runs, IsShut, IsLeft, GoesOn}
use Rattle.seeded_search.specs.Waking.{IsWokenFrom}
use Rattle.seeded_search.proofs.Choices.{chosen_is}
use Rattle.seeded_search.proofs.Narrowings.{noted, counted, mark_after, slot_after}
use Rattle.seeded_search.proofs.Working.{woken_over}

-- ---- a decision

abbrev pub drawn_on : Work → Work
drawn_on w = record w { draws = record w.draws { count = w.draws.count + 1 } }

abbrev pub left_by : Work → Cut → ℕ → Work
left_by w cut mark = record w { decisions = record w.decisions { items = decision_of cut mark (length w.marks.listed) ∷ w.decisions.items } }

module _ (task : Task) (w : Work) (t : History) (q : Queue) (runs : Runs task w t q q.items) (cut : Cut) (is : IsCutOf (present t) cut) where
  there : cut.slot < length task.flat.now.bounds.pairs
  there = omega (arith, is.slot_there, runs.searching.inside.as_long)

  pub decision_there : cut.slot < length task.lists.now.rules.items
  decision_there = omega (arith, there, runs.roomy.listed.rules.long)

  pub decision_after : (t' : History) → t' ≡ with_box t (first_part cut (present t)) → cut.slot < length (present t')
  decision_after t' is_at = slot_after t t' (first_part cut (present t)) cut.slot is_at (omega (arith, is.slot_there, (first_part_inside (present t) cut is).as_long))

  module _ (e : Entry) (next : next_entry task.plan.now (present t) ≡ Some e) (n : ℕ) (wish : cut ≡ wished e.wish (present t) e.slot n) (empty : q.items ≡ []) (room : w.made < task.cuts)
      (number : n ≡ number_of w.draws.seed w.draws.count) (q' : Queue) (bound : q'.bound ≡ q.bound) (woken : IsWokenFrom (rules_at task.lists.now cut.slot) w.marks.listed q.items q'.items) where
    settled : IsSettled task.flat.now.rules (present t)
    settled = settled_all task.flat.now.rules (present t) (subst (λ (waiting : List ℕ). IsLively task.flat.now.rules (present t) waiting) empty runs.searching.lively)

    is_chosen : cut ≡ choice task w.draws.count (present t)
    is_chosen = chosen_is task.plan.now (present t) task.seed w.draws.count n e cut next (number ∙ ap (λ s. number_of s w.draws.count) runs.roomy.seed) wish

    abbrev after : Work
    after = counted (left_by (noted (drawn_on w) (cut_line cut)) cut (mark_of t)) (length t.boxes)

    abbrev trail_after : History
    trail_after = with_box t (first_part cut (present t))

    decision_made : GoesOn task w after trail_after q'
    decision_made = (
      record {
        roomy = record {
          flat = runs.roomy.flat;
          listed = runs.roomy.listed;
          small = runs.roomy.small;
          trail = runs.roomy.trail;
          ring = bound ∙ runs.roomy.ring;
          script = runs.roomy.script;
          decisions = runs.roomy.decisions;
          marks = runs.roomy.marks;
          seed = runs.roomy.seed;
          picks = runs.roomy.picks;
          sums = runs.roomy.sums;
        };
        searching = decides (choice task) task.flat.now task.cuts (state_of w t q.items) runs.searching cut q'.items is room settled is_chosen
            (woken_over task cut.slot w.marks.listed q.items q'.items (runs.roomy.listed.rules.each cut.slot there) woken);
      },
      omega arith,
    )

    pub decide_runs : (line : Line) (w1 w2 w3 w4 : Work) (mark depth : ℕ) (t' : History) → w1 ≡ drawn_on w → line ≡ cut_line cut → w2 ≡ noted w1 line → mark ≡ mark_of t → w3 ≡ left_by w2 cut mark → w4 ≡ counted w3 depth
        → t' ≡ trail_after → depth ≡ mark_of t' → GoesOn task w w4 t' q'
    decide_runs line w1 w2 w3 w4 mark depth t' one line_is two mark_is three four trail deep =
        let depth_is : depth ≡ length t.boxes = deep ∙ (ap mark_of trail ∙ mark_after t (first_part cut (present t))) in
        let noted_is : w2 ≡ noted (drawn_on w) (cut_line cut) = two ∙ ap₂ noted one line_is in
        let work : w4 ≡ after = four ∙ ap₂ counted (three ∙ ap₂ (λ (v : Work) (m : ℕ). left_by v cut m) noted_is mark_is) depth_is in
        subst (λ (v : Work). GoesOn task w v t' q') (sym work) (subst (λ (h : History). GoesOn task w after h q') (sym trail) decision_made)

-- ---- a way back

module _ (task : Task) (d : Decision) (w : Work) (t : History) (q : Queue) (left : IsLeft task d w t q) where
  standing : IsStanding task.flat.now.rules task.flat.now.bounds.pairs t.boxes w.marks.listed d
  standing = left.closed.standing.0

  present_back : present (back_to t d.mark) ≡ decided_box t.boxes d
  present_back = let deeper = standing.mark in last_front t.boxes d.mark [] (omega arith)

  pub back_mark : d.mark ≤ mark_of t
  back_mark = let deeper = standing.mark in omega arith

  pub back_cut : IsCutOf (present (back_to t d.mark)) d.cut
  back_cut = subst (λ (b : List Pair). IsCutOf b d.cut) (sym present_back) standing.cuts

  slot_back : d.cut.slot < length task.flat.now.bounds.pairs
  slot_back = omega (arith, standing.cuts.slot_there, standing.inside.as_long)

  pub go_back_runs : (w' : Work) (t1 t' : History) (q0 q' : Queue) → w' ≡ record w { marks = record w.marks { listed = take d.marked w.marks.listed } } → t1 ≡ back_to t d.mark → t' ≡ with_box t1 (second_part d.cut (present t1))
      → q0.items ≡ [] → q'.bound ≡ q.bound → IsWokenFrom (rules_at task.lists.now d.cut.slot) w'.marks.listed q0.items q'.items → Runs task w' t' q' q'.items
  go_back_runs w' t1 t' q0 q' work back trail none bound woken =
      let at : t' ≡ with_box (back_to t d.mark) (second_part d.cut (decided_box t.boxes d))
      = trail ∙ (ap (λ (h : History). with_box h (second_part d.cut (present h))) back ∙ ap (λ (b : List Pair). with_box (back_to t d.mark) (second_part d.cut b)) present_back) in
      let woken' : IsWokenFrom (rules_at task.lists.now d.cut.slot) (take d.marked w.marks.listed) [] q'.items
      = subst (λ (items : List ℕ). IsWokenFrom (rules_at task.lists.now d.cut.slot) (take d.marked w.marks.listed) items q'.items) none
      (subst (λ (v : Work). IsWokenFrom (rules_at task.lists.now d.cut.slot) v.marks.listed q0.items q'.items) work woken) in
      subst (λ (v : Work). Runs task v t' q' q'.items) (sym work) (subst (λ (h : History). Runs task (record w { marks = record w.marks { listed = take d.marked w.marks.listed } }) h q' q'.items) (sym at) (record {
        roomy = record {
          flat = left.roomy.flat;
          listed = left.roomy.listed;
          small = left.roomy.small;
          trail = left.roomy.trail;
          ring = bound ∙ left.roomy.ring;
          script = left.roomy.script;
          decisions = left.roomy.decisions;
          marks = left.roomy.marks;
          seed = left.roomy.seed;
          picks = left.roomy.picks;
          sums = left.roomy.sums;
        };
        searching = returns_to (choice task) task.flat.now task.cuts (record (state_of w t []) { decisions = d ∷ w.decisions.items }) left.closed d w.decisions.items q'.items refl
            (woken_over task d.cut.slot (take d.marked w.marks.listed) [] q'.items (left.roomy.listed.rules.each d.cut.slot slot_back) woken');
      }))

-- ---- the present box is closed

-- rules wait for nothing in a box that is closed
unqueued : (choose : ℕ → List Pair → Cut) (flat : Flat) (cuts : ℕ) (s : State) → IsClosed choose flat cuts s → IsClosed choose flat cuts (record s { queue = [] })
unqueued choose flat cuts s c = record {
  none_facing = c.none_facing;
  grown = c.grown;
  standing = c.standing;
  root_is = c.root_is;
  some = c.some;
  lines = c.lines;
  few_cuts = c.few_cuts;
  few_drawn = c.few_drawn;
  few_open = c.few_open;
  deep = c.deep;
  few_deep = c.few_deep;
  few_picks = c.few_picks;
}

-- what was made for the task stays so as lines and picks are written and decisions are taken
roomy_after : (task : Task) (w w' : Work) (t : History) (q : Queue) → IsRoomy task w t q → w'.script.room ≡ w.script.room → w'.decisions.room ≡ w.decisions.room → w'.marks ≡ w.marks → w'.draws ≡ w.draws
    → w'.picks.room ≡ w.picks.room → w'.sums ≡ w.sums → IsRoomy task w' t q
roomy_after task w w' t q r script decisions marks draws picks sums = record {
  flat = r.flat;
  listed = r.listed;
  small = r.small;
  trail = r.trail;
  ring = r.ring;
  script = script ∙ r.script;
  decisions = decisions ∙ r.decisions;
  marks = ap (λ (m : Marked). m.bound) marks ∙ r.marks;
  seed = ap (λ (d : Drawing). d.seed) draws ∙ r.seed;
  picks = omega (arith, picks, r.picks);
  sums = sums ∙ r.sums;
}

module _ (task : Task) (w : Work) (t : History) (q : Queue) (waiting : List ℕ) (runs : Runs task w t q waiting) where
  -- by a rule
  pub shut_by_rule : (number : ℕ) → may_close task.flat.now.rules (present t) number ≡ true → IsShut task (noted w (L.Close number)) t q
  shut_by_rule number may = record {
    roomy = roomy_after task w (noted w (L.Close number)) t q runs.roomy refl refl refl refl refl refl;
    closed = unqueued (choice task) task.flat.now task.cuts _ (closes (choice task) task.flat.now task.cuts (state_of w t waiting) runs.searching number may);
  }

  -- by a sum
  pub shut_by_sum : (picks : List Pick) → may_add task.flat.now (present t) picks ≡ true → length w.picks.items + length picks ≤ w.picks.room → IsShut task (added w picks) t q
  shut_by_sum picks may few = record {
    roomy = roomy_after task w (added w picks) t q runs.roomy refl refl refl refl refl refl;
    closed = unqueued (choice task) task.flat.now task.cuts _ (closes_sum (choice task) task.flat.now task.cuts (state_of w t waiting) runs.searching picks may (omega (arith, few, runs.roomy.picks)));
  }

module _ (task : Task) (w : Work) (t : History) (q : Queue) (shut : IsShut task w t q) where
  -- a decision is left
  pub is_left : (w' : Work) (d : Decision) → w ≡ record w' { decisions = record w'.decisions { items = d ∷ w'.decisions.items } } → IsLeft task d w' t q
  is_left w' d is =
      let v = record w' { decisions = record w'.decisions { items = d ∷ w'.decisions.items } } in
      let s : IsShut task v t q = subst (λ (x : Work). IsShut task x t q) is shut in
      record {
        roomy = roomy_after task v w' t q s.roomy refl refl refl refl refl refl;
        closed = s.closed;
      }

  -- none is left
  pub is_refuted : (w' : Work) (t' : History) → w.decisions.items ≡ [] → w' ≡ w → t' ≡ back_to t 0
      → IsRefutedAnswer (choice task) task.cuts task.flat.now (claim_of task.flat.now false w'.deepest w'.script.lines w'.picks.items) t'.boxes
  is_refuted w' t' none is back =
      subst (λ (v : Work). IsRefutedAnswer (choice task) task.cuts task.flat.now (claim_of task.flat.now false v.deepest v.script.lines v.picks.items) t'.boxes) (sym is)
      (subst (λ (h : History). IsRefutedAnswer (choice task) task.cuts task.flat.now (claim_of task.flat.now false w.deepest w.script.lines w.picks.items) h.boxes) (sym back)
      (refuted (choice task) task.cuts task.flat.now (state_of w t []) shut.roomy.small shut.closed none))
