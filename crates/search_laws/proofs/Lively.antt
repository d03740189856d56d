-- Which rules are settled and which are true, as a slot gets other ends.
use Rattle.std.proofs.Common.{◌≡◌, refl, sym, ap, ◌∙◌, subst, ◌⊎◌, inl, inr, ⊎_elim, ℕ, suc, zero, Bool, true, false, ◌||◌, eqb, List, [], ◌∷◌, ◌++◌, take, slice_get, slice_set, Some, ℤ}
use Rattle.std.proofs.lemmas.Bool.{false≢true, or_from, or_cases, eqb-true}
use Rattle.std.proofs.lemmas.List.Folds.{list_any-append}
use Rattle.wake_ring.specs.Queue.{is_in}
use Rattle.box_eval.specs.declared.rule.Rule.{Rule}
use Rattle.box_eval.specs.declared.bounds.Pair.{Pair}
use Rattle.box_eval.specs.declared.cut.Cut.{Cut}
use Rattle.box_eval.specs.declared.cut.Side.{Side}
use Rattle.box_eval.specs.declared.cut.Side.TheVariants.{Low, High}
use Rattle.box_eval.specs.declared.verdict.Verdict.TheVariants.{True}
use Rattle.box_eval.specs.Box.{IsBox, IsInside, first_at, second_at, first_part, second_part}
use Rattle.box_eval.specs.Verdict.{verdict_of}
use Rattle.box_eval.specs.Reads.{reads}
use Rattle.record_trees.specs.Guided.{IsSettledFor, IsSettled}
use Rattle.box_eval.proofs.Smaller.{smaller_keeps}
use Rattle.record_trees.proofs.Settled.{settled_at, settled_from, true_settled, unread_settled}
use Rattle.search_laws.specs.State.{IsLively, AllDone, IsWoken}

-- ---- parts as boxes with one slot changed

-- a box that differs from another at a slot
pub record IsSet (ends : List Pair) (slot : ℕ) (changed : List Pair) : Type 0 where
  pub ends_there : Pair
  pub set : changed ≡ slice_set ends slot ends_there

first_set : (side : Side) (ends : List Pair) (slot : ℕ) (v : ℤ) → IsSet ends slot (first_at side ends slot v)
first_set Low ends slot v = record { ends_there = _; set = refl }
first_set High ends slot v = record { ends_there = _; set = refl }

second_set : (side : Side) (ends : List Pair) (slot : ℕ) (v : ℤ) → IsSet ends slot (second_at side ends slot v)
second_set Low ends slot v = record { ends_there = _; set = refl }
second_set High ends slot v = record { ends_there = _; set = refl }

pub first_part_set : (ends : List Pair) (cut : Cut) → IsSet ends cut.slot (first_part cut ends)
first_part_set ends cut = first_set cut.side ends cut.slot cut.value

pub second_part_set : (ends : List Pair) (cut : Cut) → IsSet ends cut.slot (second_part cut ends)
second_part_set ends cut = second_set cut.side ends cut.slot cut.value

-- ---- rules that are done

pub done_inside : (rules : List Rule) (smaller ends : List Pair) (marks : List ℕ) → IsBox smaller → IsInside smaller ends → AllDone rules ends marks → AllDone rules smaller marks
done_inside rules smaller ends marks box inside done k rule is in_it = (smaller_keeps smaller ends box inside rule).yes (done k rule is in_it)

pub in_front : (k n : ℕ) (xs : List ℕ) → is_in k (take n xs) ≡ true → is_in k xs ≡ true
in_front k zero xs h = absurd (false≢true h)
in_front k (suc n) [] h = h
in_front k (suc n) (x ∷ xs) h = elim (or_cases (eqb k x) (is_in k (take n xs)) h) [
  | inl here ↦ or_one (eqb k x) (is_in k xs) here
  | inr later ↦ or_two (eqb k x) (is_in k xs) (in_front k n xs later)
]
  where
    or_one : (a b : Bool) → a ≡ true → a || b ≡ true
    or_one true b e = refl
    or_one false b e = absurd (false≢true e)

    or_two : (a b : Bool) → b ≡ true → a || b ≡ true
    or_two true b e = refl
    or_two false b e = e

pub in_push : (k i : ℕ) (xs : List ℕ) → is_in k (xs ++ i ∷ []) ≡ true → (is_in k xs ≡ true) ⊎ (k ≡ i)
in_push k i xs h = elim (or_cases (is_in k xs) (is_in k (i ∷ [])) (sym (list_any-append (eqb k) xs (i ∷ [])) ∙ h)) [
  | inl here ↦ inl here
  | inr last ↦ ⊎_elim (λ e. inr (eqb-true k i e)) (λ e. absurd (false≢true e)) (or_cases (eqb k i) false last)
]

pub done_push : (rules : List Rule) (ends : List Pair) (marks : List ℕ) (c : ℕ) (rule : Rule) → AllDone rules ends marks → slice_get rules c ≡ Some rule → verdict_of ends rule ≡ True → AllDone rules ends (marks ++ c ∷ [])
done_push rules ends marks c rule done is says k other is_other in_it = elim (in_push k c marks in_it) [
  | inl before ↦ done k other is_other before
  | inr same ↦ let e : Some other ≡ Some rule = sym is_other ∙ (ap (slice_get rules) same ∙ is) in let f : other ≡ rule = cc in subst (λ (r : Rule). verdict_of ends r ≡ True) (sym f) says
]

-- ---- rules that don't wait

-- a rule that is settled needn't wait
pub lively_without : (rules : List Rule) (ends : List Pair) (c : ℕ) (rule : Rule) (queue : List ℕ) → slice_get rules c ≡ Some rule → IsSettledFor ends rule → IsLively rules ends (c ∷ queue) → IsLively rules ends queue
lively_without rules ends c rule queue is settled lively k other is_other out = by_test (eqb k c) refl
  where
    by_test : (b : Bool) → eqb k c ≡ b → IsSettledFor ends other
    by_test true e =
        let same : k ≡ c = eqb-true k c e in
        let f : Some other ≡ Some rule = sym is_other ∙ (ap (slice_get rules) same ∙ is) in
        let g : other ≡ rule = cc in
        subst (IsSettledFor ends) (sym g) settled
    by_test false e = lively k other is_other (or_from (eqb k c) (is_in k queue) e out)

pub lively_all : (rules : List Rule) (ends : List Pair) (queue : List ℕ) → IsSettled rules ends → IsLively rules ends queue
lively_all rules ends queue settled k rule is out = settled_at rules ends k rule settled is

pub settled_all : (rules : List Rule) (ends : List Pair) → IsLively rules ends [] → IsSettled rules ends
settled_all rules ends lively = settled_from rules ends (λ k rule is. lively k rule is refl)

module _ (rules : List Rule) (ends : List Pair) (slot : ℕ) (p : Pair) (marks queue later : List ℕ) (box : IsBox (slice_set ends slot p)) (inside : IsInside (slice_set ends slot p) ends)
    (done : AllDone rules ends marks) (lively : IsLively rules ends queue) (woken : IsWoken rules slot marks queue later) where
  by_reading : (k : ℕ) (rule : Rule) → slice_get rules k ≡ Some rule → is_in k later ≡ false → (b : Bool) → reads rule slot ≡ b → IsSettledFor (slice_set ends slot p) rule
  by_reading k rule is out true e = true_settled (slice_set ends slot p) rule box ((smaller_keeps (slice_set ends slot p) ends box inside rule).yes (done k rule is (woken.over k rule is e out)))
  by_reading k rule is out false e = unread_settled ends rule slot p e (lively k rule is (woken.kept k out))

  lively_set : IsLively rules (slice_set ends slot p) later
  lively_set k rule is out = by_reading k rule is out (reads rule slot) refl

-- after a slot got other ends and its rules were woken
pub lively_after : (rules : List Rule) (ends : List Pair) (slot : ℕ) (changed : List Pair) (marks queue later : List ℕ) → IsSet ends slot changed → IsBox changed → IsInside changed ends
    → AllDone rules ends marks → IsLively rules ends queue → IsWoken rules slot marks queue later → IsLively rules changed later
lively_after rules ends slot changed marks queue later is box inside done lively woken =
    subst (λ (b : List Pair). IsLively rules b later) (sym is.set)
    (lively_set rules ends slot is.ends_there marks queue later (subst IsBox is.set box) (subst (λ (b : List Pair). IsInside b ends) is.set inside) done lively woken)
