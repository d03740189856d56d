-- Ends that agree on what a rule reads give it the same verdict.
use Rattle.std.proofs.Common.{◌≡◌, refl, sym, ap, ap₂, ◌∙◌, subst, ℕ, Bool, true, false, ◌||◌, eqb, List, [], ◌∷◌, ◌++◌}
use Rattle.std.proofs.lemmas.Bool.{false≢true, or_parts, eq-eqb}
use Rattle.std.specs.List.{list_any}
use Rattle.box_eval.specs.declared.rule.Rule.{Rule}
use Rattle.box_eval.specs.declared.rule.Term.{Term}
use Rattle.box_eval.specs.declared.rule.Rule.TheOpen.{Rule-F, Term-F, Always, Below, AtMost, Equal, Differ, Both, Either, Not, Whole, Slot, Sum, Less, Times, Truth}
use Rattle.box_eval.specs.declared.rule.Rule.TheViews.{roll-Rule, roll-Term}
use Rattle.box_eval.specs.declared.rule.Rule.TheFolds.{fold-roll-Rule, fold-roll-Term, ind-Rule, map-Rule, map-Term}
use Rattle.box_eval.specs.declared.bounds.Pair.{Pair}
use Rattle.box_eval.specs.declared.verdict.Verdict.{Verdict}
use Rattle.box_eval.specs.declared.verdict.Span.{Span}
use Rattle.box_eval.specs.Box.{low_at, high_at}
use Rattle.box_eval.specs.Verdict.{term_span, rule_verdict, negated, both_of, either_of, below_of, at_most_of, equal_of, sum_of, less_of, times_of, truth_of, verdict_of, span_of}
use Rattle.box_eval.specs.Reads.{read_in_term, read_in_rule, slots_read, term_slots_read, reads, AgreeOn}
use Rattle.box_eval.proofs.Numbers.{span}

-- ---- lists of slots

AgreeOn-front : (xs ys : List ℕ) (a b : List Pair) → AgreeOn (xs ++ ys) a b → AgreeOn xs a b
AgreeOn-front [] ys a b h = tt
AgreeOn-front (x ∷ xs) ys a b h = (h.0, h.1, AgreeOn-front xs ys a b h.2)

AgreeOn-back : (xs ys : List ℕ) (a b : List Pair) → AgreeOn (xs ++ ys) a b → AgreeOn ys a b
AgreeOn-back [] ys a b h = h
AgreeOn-back (x ∷ xs) ys a b h = AgreeOn-back xs ys a b h.2

-- ---- verdicts

module _ (a b : List Pair) where
  abbrev AtRule : Rule → Type 0
  AtRule rule = AgreeOn (slots_read rule) a b → verdict_of a rule ≡ verdict_of b rule

  abbrev AtTerm : Term → Type 0
  AtTerm term = AgreeOn (term_slots_read term) a b → span_of a term ≡ span_of b term

  abbrev SuchRule : Type 0
  SuchRule = (r : Rule) × AtRule r

  abbrev SuchTerm : Type 0
  SuchTerm = (t : Term) × AtTerm t

  abbrev slots_in : Rule-F Rule Term → List ℕ
  slots_in x = read_in_rule (map-Rule Rule Term (List ℕ) (List ℕ) slots_read term_slots_read x)

  abbrev verdict_in : List Pair → Rule-F Rule Term → Verdict
  verdict_in ends x = rule_verdict (map-Rule Rule Term Verdict Span (verdict_of ends) (span_of ends) x)

  abbrev term_slots_in : Term-F Rule Term → List ℕ
  term_slots_in x = read_in_term (map-Term Rule Term (List ℕ) (List ℕ) slots_read term_slots_read x)

  abbrev span_in : List Pair → Term-F Rule Term → Span
  span_in ends x = term_span ends (map-Term Rule Term Verdict Span (verdict_of ends) (span_of ends) x)

  rule_rolled : (x : Rule-F Rule Term) → (AgreeOn (slots_in x) a b → verdict_in a x ≡ verdict_in b x) → AtRule (roll-Rule x)
  rule_rolled x h agree =
      fold-roll-Rule Verdict Span rule_verdict (term_span a) x
      ∙ (h (subst (λ (slots : List ℕ). AgreeOn slots a b) (fold-roll-Rule (List ℕ) (List ℕ) read_in_rule read_in_term x) agree)
      ∙ sym (fold-roll-Rule Verdict Span rule_verdict (term_span b) x))

  term_rolled : (x : Term-F Rule Term) → (AgreeOn (term_slots_in x) a b → span_in a x ≡ span_in b x) → AtTerm (roll-Term x)
  term_rolled x h agree =
      fold-roll-Term Verdict Span rule_verdict (term_span a) x
      ∙ (h (subst (λ (slots : List ℕ). AgreeOn slots a b) (fold-roll-Term (List ℕ) (List ℕ) read_in_rule read_in_term x) agree)
      ∙ sym (fold-roll-Term Verdict Span rule_verdict (term_span b) x))

  -- two terms are compared or joined
  of_terms : {A : Type 0} (f : Span → Span → A) (s t : SuchTerm) → AgreeOn (term_slots_read s.0 ++ term_slots_read t.0) a b → f (span_of a s.0) (span_of a t.0) ≡ f (span_of b s.0) (span_of b t.0)
  of_terms f s t h = ap₂ f (s.1 (AgreeOn-front (term_slots_read s.0) (term_slots_read t.0) a b h)) (t.1 (AgreeOn-back (term_slots_read s.0) (term_slots_read t.0) a b h))

  of_rules : (f : Verdict → Verdict → Verdict) (s t : SuchRule) → AgreeOn (slots_read s.0 ++ slots_read t.0) a b → f (verdict_of a s.0) (verdict_of a t.0) ≡ f (verdict_of b s.0) (verdict_of b t.0)
  of_rules f s t h = ap₂ f (s.1 (AgreeOn-front (slots_read s.0) (slots_read t.0) a b h)) (t.1 (AgreeOn-back (slots_read s.0) (slots_read t.0) a b h))

  at_rule : (y : Rule-F SuchRule SuchTerm) → AtRule (roll-Rule (map-Rule SuchRule SuchTerm Rule Term (λ e. e.0) (λ e. e.0) y))
  at_rule Always = rule_rolled Always (λ h. refl)
  at_rule (Below s t) = rule_rolled (Below s.0 t.0) (of_terms below_of s t)
  at_rule (AtMost s t) = rule_rolled (AtMost s.0 t.0) (of_terms at_most_of s t)
  at_rule (Equal s t) = rule_rolled (Equal s.0 t.0) (of_terms equal_of s t)
  at_rule (Differ s t) = rule_rolled (Differ s.0 t.0) (of_terms (λ x y. negated (equal_of x y)) s t)
  at_rule (Both s t) = rule_rolled (Both s.0 t.0) (of_rules both_of s t)
  at_rule (Either s t) = rule_rolled (Either s.0 t.0) (of_rules either_of s t)
  at_rule (Not s) = rule_rolled (Not s.0) (λ h. ap negated (s.1 h))

  at_term : (y : Term-F SuchRule SuchTerm) → AtTerm (roll-Term (map-Term SuchRule SuchTerm Rule Term (λ e. e.0) (λ e. e.0) y))
  at_term (Whole n) = term_rolled (Whole n) (λ h. refl)
  at_term (Slot slot) = term_rolled (Slot slot) (λ h. ap₂ span h.0 h.1)
  at_term (Sum s t) = term_rolled (Sum s.0 t.0) (of_terms sum_of s t)
  at_term (Less s t) = term_rolled (Less s.0 t.0) (of_terms less_of s t)
  at_term (Times s t) = term_rolled (Times s.0 t.0) (of_terms times_of s t)
  at_term (Truth s) = term_rolled (Truth s.0) (λ h. ap truth_of (s.1 h))

  pub same_verdict_on : (rule : Rule) → AgreeOn (slots_read rule) a b → verdict_of a rule ≡ verdict_of b rule
  same_verdict_on = ind-Rule AtRule AtTerm
      (λ x y is. subst (λ z. AtRule (roll-Rule z)) is (at_rule y))
      (λ x y is. subst (λ z. AtTerm (roll-Term z)) is (at_term y))

-- ---- a slot that isn't read

-- two boxes have the same ends at every slot but one
pub record AgreeBut (slot : ℕ) (a b : List Pair) : Type 0 where
  pub low : (other : ℕ) → (other ≡ slot → ⊥) → low_at a other ≡ low_at b other
  pub high : (other : ℕ) → (other ≡ slot → ⊥) → high_at a other ≡ high_at b other

agree_unread : (slot : ℕ) (a b : List Pair) (slots : List ℕ) → AgreeBut slot a b → list_any (eqb slot) slots ≡ false → AgreeOn slots a b
agree_unread slot a b [] but out = tt
agree_unread slot a b (s ∷ slots) but out =
    let parts = or_parts (eqb slot s) (list_any (eqb slot) slots) out in
    let apart : s ≡ slot → ⊥ = λ e. false≢true (sym parts.0 ∙ eq-eqb slot s (sym e)) in
    (but.low s apart, but.high s apart, agree_unread slot a b slots but parts.1)

-- a rule doesn't see the ends of a slot that it doesn't read
pub unread : (slot : ℕ) (a b : List Pair) (rule : Rule) → AgreeBut slot a b → reads rule slot ≡ false → verdict_of a rule ≡ verdict_of b rule
unread slot a b rule but out = same_verdict_on a b rule (agree_unread slot a b (slots_read rule) but out)
