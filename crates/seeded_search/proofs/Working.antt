-- What the state of the search says of its present box, its rules and its slots.
use Rattle.std.proofs.Common.{◌≡◌, refl, sym, ap, ◌∙◌, inl, inr, ℕ, zero, suc, ◌^◌, ◌<◌, ◌≤◌, Bool, true, false, ◌||◌, eqb, List, [], ◌∷◌, length, slice_get, Some, arith}
use Rattle.std.proofs.lemmas.Bool.{false≢true, or_parts, or_from, eqb-true, cases_eq}
use Rattle.wake_ring.specs.Queue.{Queue, is_in, without}
use Rattle.wake_ring.proofs.Order.{without_first, without_other}
use Rattle.bound_trail.specs.History.{History, present, mark_of}
use Rattle.box_eval.specs.declared.rule.Rule.{Rule}
use Rattle.box_eval.specs.Rules.{CanJudge, AllFit}
use Rattle.box_eval.specs.Reads.{reads}
use Rattle.box_eval.proofs.Fits.{fits_at, fit_inside}
use Rattle.box_eval.proofs.ReadBounds.{read_below}
use Rattle.search_laws.specs.State.{IsWoken}
use Rattle.search_laws.proofs.Steps.{requeued}
use Rattle.seeded_search.specs.declared.task.Task.{Task}
use Rattle.seeded_search.specs.declared.work.Work.{Work}
use Rattle.seeded_search.specs.Listed.{slots_at, rules_at}
use Rattle.seeded_search.specs.SlotLists.{IsRuleList}
use Rattle.seeded_search.specs.Probe.{IsProbe}
use Rattle.seeded_search.specs.Runs.{choice, state_of, Runs}
use Rattle.seeded_search.specs.Waking.{IsWokenFrom}

-- the rule of a number below the number of rules
pub rule_there : (rules : List Rule) (k : ℕ) → k < length rules → (rule : Rule) × (slice_get rules k ≡ Some rule)
rule_there [] k less = absurd (omega arith)
rule_there (r ∷ rs) zero less = (r, refl)
rule_there (r ∷ rs) (suc k) less = rule_there rs k (omega arith)

-- the number of a rule is below the number of rules
pub below_length : (rules : List Rule) (k : ℕ) (rule : Rule) → slice_get rules k ≡ Some rule → k < length rules
below_length [] k rule is = cc
below_length (r ∷ rs) zero rule is = omega arith
below_length (r ∷ rs) (suc k) rule is = omega (arith, below_length rs k rule is)

module _ (task : Task) (w : Work) (t : History) (q : Queue) (waiting : List ℕ) (runs : Runs task w t q waiting) where
  abbrev rules : List Rule
  rules = task.flat.now.rules

  pub all_fit : AllFit (present t) rules
  all_fit = fit_inside (present t) task.flat.now.bounds.pairs rules runs.searching.is_box runs.searching.inside runs.roomy.flat.fit

  pub can_judge : (k : ℕ) (rule : Rule) → slice_get rules k ≡ Some rule → CanJudge (present t) rule
  can_judge k rule is = fits_at (present t) rules k rule all_fit is

  pub as_wide : length (present t) ≡ length task.flat.now.bounds.pairs
  as_wide = runs.searching.inside.as_long

  pub few_slots : length (present t) < 2 ^ 32
  few_slots = omega (arith, as_wide, runs.roomy.flat.few_slots)

  -- a slot of a rule's list is read, and is one of the box
  pub slot_read : (k : ℕ) (rule : Rule) (slot : ℕ) → slice_get rules k ≡ Some rule → is_in slot (slots_at task.lists.now k) ≡ true → reads rule slot ≡ true
  slot_read k rule slot is in_it = sym ((runs.roomy.listed.slots.each k rule is).told slot) ∙ in_it

  pub slot_there : (k : ℕ) (rule : Rule) (slot : ℕ) → slice_get rules k ≡ Some rule → is_in slot (slots_at task.lists.now k) ≡ true → slot < length (present t)
  slot_there k rule slot is in_it = omega (arith, read_below rule slot (slot_read k rule slot is in_it), (can_judge k rule is).slots)

  pub probe : (k : ℕ) (rule : Rule) (slot : ℕ) → slice_get rules k ≡ Some rule → is_in slot (slots_at task.lists.now k) ≡ true → IsProbe (present t) rule slot
  probe k rule slot is in_it = record { box = runs.searching.is_box; can = can_judge k rule is; there = slot_there k rule slot is in_it }

  -- the mark of the trail
  pub mark_few : mark_of t ≤ task.cuts
  mark_few = omega (arith, runs.searching.deep, runs.searching.few_deep, runs.searching.few_cuts)

  -- more rules may wait
  pub waits_more : (q' : Queue) (later : List ℕ) → q'.bound ≡ q.bound → ((k : ℕ) → is_in k later ≡ false → is_in k waiting ≡ false) → Runs task w t q' later
  waits_more q' later bound kept = record {
    roomy = record {
      flat = runs.roomy.flat;
      listed = runs.roomy.listed;
      small = runs.roomy.small;
      trail = runs.roomy.trail;
      ring = bound ∙ runs.roomy.ring;
      script = runs.roomy.script;
      decisions = runs.roomy.decisions;
      marks = runs.roomy.marks;
      seed = runs.roomy.seed;
      picks = runs.roomy.picks;
      sums = runs.roomy.sums;
    };
    searching = requeued (choice task) task.flat.now task.cuts (state_of w t waiting) runs.searching later kept;
  }

-- ---- waking

pub out_parts : (k n : ℕ) (xs : List ℕ) → is_in k (n ∷ xs) ≡ false → (eqb k n ≡ false) × (is_in k xs ≡ false)
out_parts k n xs out = or_parts (eqb k n) (is_in k xs) out

-- what wakes from a slot's list wakes the rules that read the slot
pub woken_over : (task : Task) (slot : ℕ) (marks queue later : List ℕ) → IsRuleList task.flat.now.rules (length task.flat.now.rules) slot (rules_at task.lists.now slot) → IsWokenFrom (rules_at task.lists.now slot) marks queue later
    → IsWoken task.flat.now.rules slot marks queue later
woken_over task slot marks queue later listed woken = record {
  kept = woken.kept;
  over = λ k rule is reads out. woken.over k (listed.told k rule (below_length task.flat.now.rules k rule is) is ∙ reads) out;
}

-- also where a rule is in its turn
pub woken_in_turn : (task : Task) (slot number : ℕ) (marks queue later : List ℕ) → IsRuleList task.flat.now.rules (length task.flat.now.rules) slot (rules_at task.lists.now slot) → IsWokenFrom (rules_at task.lists.now slot) marks queue later
    → IsWoken task.flat.now.rules slot marks (number ∷ queue) (number ∷ later)
woken_in_turn task slot number marks queue later listed woken = record {
  kept = λ k out. let parts = out_parts k number later out in or_from (eqb k number) (is_in k queue) parts.0 (woken.kept k parts.1);
  over = λ k rule is reads out. woken.over k (listed.told k rule (below_length task.flat.now.rules k rule is) is ∙ reads) (out_parts k number later out).1;
}

-- a rule that waits in its turn and in the queue waits in the queue
pub kept_in : (number : ℕ) (items : List ℕ) → is_in number items ≡ true → (k : ℕ) → is_in k items ≡ false → is_in k (number ∷ items) ≡ false
kept_in number items here k out = by_test (eqb k number) refl
  where
    by_test : (b : Bool) → eqb k number ≡ b → eqb k number || is_in k items ≡ false
    by_test true e = absurd (false≢true (sym out ∙ (ap (λ j. is_in j items) (eqb-true k number e) ∙ here)))
    by_test false e = or_from (eqb k number) (is_in k items) e out

-- a number that isn't in a list without another, which it isn't, is not in the list
pub out_without : (k c : ℕ) (xs : List ℕ) → eqb k c ≡ false → is_in k (without c xs) ≡ false → is_in k xs ≡ false
out_without k c [] apart out = out
out_without k c (b ∷ xs) apart out = elim (cases_eq c b) [
  | inl same ↦
      let one : is_in k (without c xs) ≡ false = ap (is_in k) (sym (ap (λ j. without j (b ∷ xs)) same ∙ (without_first b xs ∙ ap (λ j. without j xs) (sym same)))) ∙ out in
      or_from (eqb k b) (is_in k xs) (ap (eqb k) (sym same) ∙ apart) (out_without k c xs apart one)
  | inr ne ↦
      let parts = or_parts (eqb k b) (is_in k (without c xs)) (ap (is_in k) (sym (without_other c b xs ne)) ∙ out) in
      or_from (eqb k b) (is_in k xs) parts.0 (out_without k c xs apart parts.1)
]
