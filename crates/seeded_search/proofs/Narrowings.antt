-- Cuts in the turn of a rule.
use Rattle.std.proofs.Common.{◌≡◌, ◌≢◌, refl, sym, ap, ap₂, ◌∙◌, subst, ◌⊎◌, ⊎_elim, ℕ, ◌+◌, ◌<◌, ◌≤◌, max, Bool, true, false, List, [], ◌∷◌, ◌++◌, length, slice_get, Some, arith, append_assoc, length-append, ℤ, ◌<ℤ◌, ◌≤ℤ◌, ◌-ℤ◌}
use Rattle.std.proofs.lemmas.Int.{ints}
use Rattle.std.specs.Prelude.{unsigned_abs}
use Rattle.wake_ring.specs.Queue.{Queue, is_in}
use Rattle.bound_trail.specs.History.{History, present, mark_of, with_box}
use Rattle.box_eval.specs.declared.rule.Rule.{Rule}
use Rattle.box_eval.specs.declared.bounds.Pair.{Pair}
use Rattle.box_eval.specs.declared.cut.Cut.{Cut}
use Rattle.box_eval.specs.declared.cut.Side.{Side}
use Rattle.search_laws.specs.record_trees.declared.record.Line.{Line}
use Rattle.search_laws.specs.record_trees.declared.record.Line.TheVariants as L
use Rattle.box_eval.specs.Box.{low_at, high_at, cut_at, second_part}
use Rattle.search_laws.specs.record_trees.Record.{cut_line}
use Rattle.search_laws.specs.Halves.{value_at, IsHalved, IsLongest}
use Rattle.search_laws.specs.State.{IsSearching}
use Rattle.search_laws.proofs.Halves.{half_done, longest_open}
use Rattle.search_laws.proofs.Lists.{last_push}
use Rattle.search_laws.proofs.Steps.{state, narrows_by}
use Rattle.seeded_search.specs.declared.task.Task.{Task}
use Rattle.seeded_search.specs.declared.work.Work.{Work}
use Rattle.seeded_search.specs.declared.turns.Step.{Step}
use Rattle.seeded_search.specs.Joined.{joined}
use Rattle.seeded_search.specs.Listed.{slots_at, rules_at}
use Rattle.seeded_search.specs.Runs.{choice, state_of, Runs, IsCutBy, IsStuck, IsSame, Stepped}
use Rattle.seeded_search.specs.Waking.{IsWokenFrom}
use Rattle.seeded_search.proofs.Working.{rule_there, slot_read, slot_there, waits_more, kept_in, out_parts, woken_in_turn}

-- ---- what is written

abbrev pub noted : Work → Line → Work
noted w line = record w { script = record w.script { lines = w.script.lines ++ line ∷ [] } }

abbrev pub counted : Work → ℕ → Work
counted w depth = record w { made = w.made + 1; deepest = max w.deepest depth }

pub mark_after : (t : History) (b : List Pair) → mark_of (with_box t b) ≡ length t.boxes
mark_after t b = omega (arith, length-append t.boxes (b ∷ []))

-- ---- a cut

module _ (task : Task) (w : Work) (t : History) (q : Queue) (number : ℕ) (cut : Cut) (runs : Runs task w t q (number ∷ q.items)) (less : number < length task.flat.now.rules) (room : w.made < task.cuts)
    (slot : is_in cut.slot (slots_at task.lists.now number) ≡ true) (longest : IsLongest task.flat.now.rules (present t) number cut) (q' : Queue) (bound : q'.bound ≡ q.bound)
    (woken : IsWokenFrom (rules_at task.lists.now cut.slot) w.marks.listed q.items q'.items) where
  abbrev after : Work
  after = counted (noted (noted w (cut_line cut)) (L.Close number)) (length t.boxes)

  abbrev trail_after : History
  trail_after = with_box t (second_part cut (present t))

  rule_is : (rule : Rule) × (slice_get task.flat.now.rules number ≡ Some rule)
  rule_is = rule_there task.flat.now.rules number less

  there : cut.slot < length task.flat.now.bounds.pairs
  there = omega (arith, longest.cuts.slot_there, runs.searching.inside.as_long)

  searching : IsSearching (choice task) task.flat.now task.cuts (state_of after trail_after (number ∷ q'.items))
  searching =
      let h = narrows_by (choice task) task.flat.now task.cuts (state_of w t (number ∷ q.items)) runs.searching cut number (number ∷ q'.items) longest.cuts room
      longest.closes longest.longest (woken_in_turn task cut.slot number w.marks.listed q.items q'.items (runs.roomy.listed.rules.each cut.slot there) woken) in
      subst (λ (out : List Line). IsSearching (choice task) task.flat.now task.cuts
      (state trail_after.boxes (number ∷ q'.items) out w.picks.items w.decisions.items w.marks.listed (w.made + 1) w.draws.count (max w.deepest (length t.boxes))))
      (sym (append_assoc w.script.lines (cut_line cut ∷ []) (L.Close number ∷ []))) h

  waits : (b : Bool) → is_in number q'.items ≡ b → b ≡ true
  waits true e = refl
  waits false e =
      let reads = slot_read task w t q (number ∷ q.items) runs number rule_is.0 cut.slot rule_is.1 slot in
      let listed = (runs.roomy.listed.rules.each cut.slot there).told number rule_is.0 less rule_is.1 ∙ reads in
      let done = runs.searching.done number rule_is.0 rule_is.1 (woken.over number listed e) in
      absurd (longest_open task.flat.now.rules (present t) number rule_is.0 cut runs.searching.is_box rule_is.1 longest done)

  in_turn : Runs task after trail_after q' (number ∷ q'.items)
  in_turn = record {
    roomy = record {
      flat = runs.roomy.flat;
      listed = runs.roomy.listed;
      small = runs.roomy.small;
      trail = runs.roomy.trail;
      ring = bound ∙ runs.roomy.ring;
      script = runs.roomy.script;
      decisions = runs.roomy.decisions;
      marks = runs.roomy.marks;
      seed = runs.roomy.seed;
      picks = runs.roomy.picks;
      sums = runs.roomy.sums;
    };
    searching = searching;
  }

  cut_made : IsCutBy task w after trail_after q'
  cut_made = record {
    runs = waits_more task after trail_after q' (number ∷ q'.items) in_turn q' q'.items refl (kept_in number q'.items (waits (is_in number q'.items) refl));
    decisions = refl;
    made = omega arith;
  }

  pub cut_off : (line : Line) (w1 w2 w3 : Work) (depth : ℕ) (t' : History) → line ≡ cut_line cut → w1 ≡ noted w line → w2 ≡ noted w1 (L.Close number) → w3 ≡ counted w2 depth → t' ≡ trail_after → depth ≡ mark_of t'
      → IsCutBy task w w3 t' q'
  cut_off line w1 w2 w3 depth t' line_is one two three trail deep =
      let depth_is : depth ≡ length t.boxes = deep ∙ (ap mark_of trail ∙ mark_after t (second_part cut (present t))) in
      let work : w3 ≡ after = three ∙ ap₂ counted (two ∙ ap (λ (v : Work). noted v (L.Close number)) (one ∙ ap (noted w) line_is)) depth_is in
      subst (λ (v : Work). IsCutBy task w v t' q') (sym work) (subst (λ (h : History). IsCutBy task w after h q') (sym trail) cut_made)

-- a slot of the box before is one of the box after
pub slot_after : (t t' : History) (ends : List Pair) (slot : ℕ) → t' ≡ with_box t ends → slot < length ends → slot < length (present t')
slot_after t t' ends slot is less = omega (arith, less, ap (λ (h : History). length (present h)) is, ap (λ (b : List Pair). length b) (last_push t.boxes ends []))

-- ---- a look at one end

module _ (task : Task) (w : Work) (t : History) (q : Queue) (number : ℕ) (runs : Runs task w t q (number ∷ q.items)) (rule : Rule) (is : slice_get task.flat.now.rules number ≡ Some rule)
    (slot : ℕ) (in_it : is_in slot (slots_at task.lists.now number) ≡ true) (side : Side) (count : ℕ) (halved : IsHalved (present t) rule slot side count count) where
  pub is_longest : (v : ℤ) → v ≡ value_at side (low_at (present t) slot) (high_at (present t) slot) count → IsLongest task.flat.now.rules (present t) number (cut_at side slot v)
  is_longest v same = subst (λ (x : ℤ). IsLongest task.flat.now.rules (present t) number (cut_at side slot x)) (sym same)
      (half_done (present t) rule slot side task.flat.now.rules number count runs.searching.is_box (slot_there task w t q (number ∷ q.items) runs number rule slot is in_it) is halved)

  wide_of : (low high : ℤ) → low ≤ℤ high → 0 < count → count ≤ unsigned_abs (high -ℤ low) → low <ℤ high
  wide_of low high ordered some most = omega (arith, ints)

  pub stuck : w.made ≡ task.cuts → IsStuck task w w t q (number ∷ q.items)
  stuck all = record {
    runs = runs;
    decisions = refl;
    made = omega arith;
    all = all;
    wide = (slot, wide_of (low_at (present t) slot) (high_at (present t) slot) (runs.searching.is_box.ordered slot) halved.some halved.within);
  }

-- ---- looks one after the other

pub stepped_runs : (task : Task) (number : ℕ) (At : Side → ℕ → Type 0) (step : Step) (w : Work) (t : History) (q : Queue) (w' : Work) (t' : History) (q' : Queue)
    → Runs task w t q (number ∷ q.items) → step ≢ Step.Spent → Stepped task number At step w t q w' t' q' → Runs task w' t' q' (number ∷ q'.items)
stepped_runs task number At Step.None w t q w' t' q' runs left h =
    let same = h.0 in
    subst (λ (v : Work). Runs task v t' q' (number ∷ q'.items)) (sym same.work)
    (subst (λ (u : History). Runs task w u q' (number ∷ q'.items)) (sym same.trail) (subst (λ (r : Queue). Runs task w t r (number ∷ r.items)) (sym same.ring) runs))
stepped_runs task number At Step.Cut w t q w' t' q' runs left h = waits_more task w' t' q' q'.items h.runs q' (number ∷ q'.items) refl (λ k out. (out_parts k number q'.items out).1)
stepped_runs task number At Step.Spent w t q w' t' q' runs left h = absurd (left refl)

-- what the second step says of the state before the first, where that changed nothing
same_before : (task : Task) (number : ℕ) (At : Side → ℕ → Type 0) (step : Step) (w : Work) (t : History) (q : Queue) (w1 : Work) (t1 : History) (q1 : Queue) (w' : Work) (t' : History) (q' : Queue)
    → IsSame w t q w1 t1 q1 → Stepped task number At step w1 t1 q1 w' t' q' → Stepped task number At step w t q w' t' q'
same_before task number At step w t q w1 t1 q1 w' t' q' same h =
    subst (λ (v : Work). Stepped task number At step v t q w' t' q') same.work
    (subst (λ (u : History). Stepped task number At step w1 u q w' t' q') same.trail (subst (λ (r : Queue). Stepped task number At step w1 t1 r w' t' q') same.ring h))

cut_same : (task : Task) (w w1 : Work) (t1 : History) (q1 : Queue) (w' : Work) (t' : History) (q' : Queue) → IsCutBy task w w1 t1 q1 → IsSame w1 t1 q1 w' t' q' → IsCutBy task w w' t' q'
cut_same task w w1 t1 q1 w' t' q' h same =
    subst (λ (v : Work). IsCutBy task w v t' q') (sym same.work)
    (subst (λ (u : History). IsCutBy task w w1 u q') (sym same.trail) (subst (λ (r : Queue). IsCutBy task w w1 t1 r) (sym same.ring) h))

pub steps_joined : (task : Task) (number : ℕ) (One Two All : Side → ℕ → Type 0) (first second : Step) (w : Work) (t : History) (q : Queue) (w1 : Work) (t1 : History) (q1 : Queue) (w' : Work) (t' : History) (q' : Queue)
    → ((side : Side) (slot : ℕ) → All side slot → One side slot ⊎ Two side slot) → first ≢ Step.Spent
    → Stepped task number One first w t q w1 t1 q1 → Stepped task number Two second w1 t1 q1 w' t' q' → Stepped task number All (joined first second) w t q w' t' q'
steps_joined task number One Two All Step.None Step.None w t q w1 t1 q1 w' t' q' parts left h k =
    let j = same_before task number Two Step.None w t q w1 t1 q1 w' t' q' h.0 k in
    (j.0, λ rule side slot is at. ⊎_elim (λ one. h.1 rule side slot is one) (λ two. j.1 rule side slot is two) (parts side slot at))
steps_joined task number One Two All Step.None Step.Cut w t q w1 t1 q1 w' t' q' parts left h k = same_before task number Two Step.Cut w t q w1 t1 q1 w' t' q' h.0 k
steps_joined task number One Two All Step.None Step.Spent w t q w1 t1 q1 w' t' q' parts left h k = same_before task number Two Step.Spent w t q w1 t1 q1 w' t' q' h.0 k
steps_joined task number One Two All Step.Cut Step.None w t q w1 t1 q1 w' t' q' parts left h k = cut_same task w w1 t1 q1 w' t' q' h k.0
steps_joined task number One Two All Step.Cut Step.Cut w t q w1 t1 q1 w' t' q' parts left h k =
    record { runs = k.runs; decisions = k.decisions ∙ h.decisions; made = omega (arith, h.made, k.made) }
steps_joined task number One Two All Step.Cut Step.Spent w t q w1 t1 q1 w' t' q' parts left h k =
    record { runs = k.runs; decisions = k.decisions ∙ h.decisions; made = omega (arith, h.made, k.made); all = k.all; wide = k.wide }
steps_joined task number One Two All Step.Spent second w t q w1 t1 q1 w' t' q' parts left h k = absurd (left refl)
