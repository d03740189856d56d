-- What comes of the turn of a rule.
use Rattle.std.proofs.Common.{◌≡◌, refl, sym, ap, ◌∙◌, subst, ℕ, Bool, true, false, cond, List, [], ◌∷◌, ◌++◌, slice_get, Option, Some}
use Rattle.std.proofs.lemmas.Bool.{false≢true}
use Rattle.std.specs.Option.{option_map_or}
use Rattle.wake_ring.specs.Queue.{Queue, is_in, without}
use Rattle.bound_trail.specs.History.{History, present}
use Rattle.box_eval.specs.declared.rule.Rule.{Rule}
use Rattle.box_eval.specs.declared.bounds.Pair.{Pair}
use Rattle.box_eval.specs.declared.verdict.Verdict.TheVariants.{True, False}
use Rattle.box_eval.specs.Verdict.{verdict_of}
use Rattle.search_laws.specs.record_trees.Record.{is_false, may_close}
use Rattle.search_laws.specs.record_trees.Guided.{IsSettledFor}
use Rattle.search_laws.proofs.of_record_trees.Settled.{true_settled, read_settled}
use Rattle.search_laws.proofs.Steps.{passed, marked}
use Rattle.seeded_search.specs.declared.task.Task.{Task}
use Rattle.seeded_search.specs.declared.work.Work.{Work}
use Rattle.seeded_search.specs.declared.turns.Turned.TheVariants as Turned
use Rattle.seeded_search.specs.Listed.{slots_at}
use Rattle.seeded_search.specs.Rooms.{with_mark}
use Rattle.seeded_search.specs.Runs.{choice, state_of, Runs, IsCutBy, IsRetired, IsStuck, IsSame, NoDeadEnd, TurnedTo}
use Rattle.seeded_search.proofs.Working.{out_parts, out_without, waits_more}

-- the rule of a number closes the box where it is false there
pub may_close_is : (rules : List Rule) (ends : List Pair) (k : ℕ) (rule : Rule) → slice_get rules k ≡ Some rule → may_close rules ends k ≡ is_false (verdict_of ends rule)
may_close_is rules ends k rule is = ap (λ (o : Option Rule). option_map_or (λ r. is_false (verdict_of ends r)) o false) is

module _ (task : Task) (w : Work) (t : History) (q : Queue) (number : ℕ) (runs : Runs task w t q (number ∷ q.items)) (rule : Rule) (is : slice_get task.flat.now.rules number ≡ Some rule) where
  -- the rule is settled, and no longer waits
  gone : IsSettledFor (present t) rule → Runs task w t q q.items
  gone settled = record {
    roomy = runs.roomy;
    searching = passed (choice task) task.flat.now task.cuts (state_of w t (number ∷ q.items)) runs.searching number rule q.items refl is settled;
  }

  pub open_over : may_close task.flat.now.rules (present t) number ≡ false → NoDeadEnd task t number (λ side slot. is_in slot (slots_at task.lists.now number) ≡ true) → TurnedTo task number Turned.Over w t q w t q
  open_over unclosed none =
      let listed = runs.roomy.listed.slots.each number rule is in (
        gone (read_settled (present t) rule
            (λ says. false≢true (sym unclosed ∙ (may_close_is task.flat.now.rules (present t) number rule is ∙ ap is_false says)))
            (λ side slot reads d. none rule side slot is (listed.told slot ∙ reads) d)),
        refl,
        refl,
        refl,
      )

  -- the rule is true, and is marked
  pub true_over : verdict_of (present t) rule ≡ True → (w' : Work) → w' ≡ record w { marks = with_mark number w.marks } → TurnedTo task number Turned.Over w t q w' t q
  true_over says w' after = subst (λ (v : Work). TurnedTo task number Turned.Over w t q v t q) (sym after) (by_mark (is_in number w.marks.listed) refl)
    where
      passed_on : Runs task w t q q.items
      passed_on = gone (true_settled (present t) rule runs.searching.is_box says)

      by_mark : (b : Bool) → is_in number w.marks.listed ≡ b → TurnedTo task number Turned.Over w t q (record w { marks = cond b w.marks (record w.marks { listed = w.marks.listed ++ number ∷ [] }) }) t q
      by_mark true e = (passed_on, refl, refl, refl)
      by_mark false e = (
        record {
          roomy = record {
            flat = runs.roomy.flat;
            listed = runs.roomy.listed;
            small = runs.roomy.small;
            trail = runs.roomy.trail;
            ring = runs.roomy.ring;
            script = runs.roomy.script;
            decisions = runs.roomy.decisions;
            marks = runs.roomy.marks;
            seed = runs.roomy.seed;
            picks = runs.roomy.picks;
            sums = runs.roomy.sums;
          };
          searching = marked (choice task) task.flat.now task.cuts (state_of w t q.items) passed_on.searching number rule is says;
        },
        refl,
        refl,
        refl,
      )

  -- the rule is false
  pub false_closed : verdict_of (present t) rule ≡ False → TurnedTo task number Turned.Closed w t q w t q
  false_closed says = (runs, refl, may_close_is task.flat.now.rules (present t) number rule is ∙ ap is_false says)

-- a look that changed nothing
pub over_same : (task : Task) (number : ℕ) (w : Work) (t : History) (q : Queue) (w' : Work) (t' : History) (q' : Queue) → IsSame w t q w' t' q' → TurnedTo task number Turned.Over w t q w t q → TurnedTo task number Turned.Over w t q w' t' q'
over_same task number w t q w' t' q' same h =
    subst (λ (v : Work). TurnedTo task number Turned.Over w t q v t' q') (sym same.work)
    (subst (λ (u : History). TurnedTo task number Turned.Over w t q w u q') (sym same.trail) (subst (λ (r : Queue). TurnedTo task number Turned.Over w t q w t r) (sym same.ring) h))

-- cuts were made
pub cut_turn : (task : Task) (number : ℕ) (w : Work) (t : History) (q : Queue) (w' : Work) (t' : History) (q' : Queue) → IsCutBy task w w' t' q' → TurnedTo task number Turned.Cut w t q w' t' q'
cut_turn task number w t q w' t' q' h = (h.runs, h.decisions, h.made)

-- a rule that is taken has its turn
pub in_turn : (task : Task) (w : Work) (t : History) (q : Queue) (number : ℕ) (q' : Queue) → Runs task w t q q.items → q' ≡ record { bound = q.bound; items = without number q.items } → Runs task w t q' (number ∷ q'.items)
in_turn task w t q number q' runs taken =
    waits_more task w t q q.items runs q' (number ∷ q'.items) (ap (λ (r : Queue). r.bound) taken)
    (λ k out. let parts = out_parts k number q'.items out in out_without k number q.items parts.0 (ap (λ (r : Queue). is_in k r.items) (sym taken) ∙ parts.1))

-- a rule that waits and is true is done
pub retired : (task : Task) (w : Work) (t : History) (q : Queue) (number : ℕ) (rule : Rule) (w' : Work) (q' : Queue) → Runs task w t q q.items → slice_get task.flat.now.rules number ≡ Some rule → verdict_of (present t) rule ≡ True
    → w' ≡ record w { marks = with_mark number w.marks } → q' ≡ record { bound = q.bound; items = without number q.items } → IsRetired task w t w' q'
retired task w t q number rule w' q' runs is says marked removed =
    let over = true_over task w t q' number (in_turn task w t q number q' runs removed) rule is says w' marked in
    record { runs = over.0; decisions = over.2; made = over.3 }

pub retired_more : (task : Task) (w : Work) (t : History) (w1 : Work) (q1 : Queue) (w2 : Work) (q2 : Queue) → IsRetired task w t w1 q1 → IsRetired task w1 t w2 q2 → IsRetired task w t w2 q2
retired_more task w t w1 q1 w2 q2 first second = record { runs = second.runs; decisions = second.decisions ∙ first.decisions; made = second.made ∙ first.made }

-- the rule is put back
pub spent_turn : (task : Task) (number : ℕ) (w : Work) (t : History) (q : Queue) (w' : Work) (t' : History) (q1 q' : Queue) → IsStuck task w w' t' q1 (number ∷ q1.items)
    → q'.bound ≡ q1.bound → ((k : ℕ) → is_in k q'.items ≡ is_in k (number ∷ q1.items)) → TurnedTo task number Turned.Spent w t q w' t' q'
spent_turn task number w t q w' t' q1 q' h bound added = record {
  runs = waits_more task w' t' q1 (number ∷ q1.items) h.runs q' q'.items bound (λ k out. sym (added k) ∙ out);
  decisions = h.decisions;
  made = h.made;
  all = h.all;
  wide = h.wide;
}
