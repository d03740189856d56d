-- The reach and the span of a sum, a difference and a product, from those of their parts.
use Rattle.std.proofs.Common.{◌≡◌, ℕ, ◌≤◌, max, List, ◌⊎◌, ⊎_elim, arith, ap, ap₂, sym, ◌∙◌}
use Rattle.box_eval.specs.declared.rule.Rule.TheViews as V
use Rattle.box_eval.specs.declared.rule.Rule.TheViews.{roll-Term}
use Rattle.box_eval.specs.declared.rule.Rule.TheOpen as O
use denote.Hole.Carrier.{roll}
use Rattle.box_eval.specs.declared.rule.Rule.TheFolds.{fold-roll-Term}
use Rattle.box_eval.specs.declared.rule.Term.{Term}
use Rattle.box_eval.specs.declared.bounds.Pair.{Pair}
use Rattle.box_eval.specs.declared.verdict.Verdict.{Verdict}
use Rattle.box_eval.specs.declared.verdict.Span.{Span}
use Rattle.box_eval.specs.Verdict.{sum_of, less_of, times_of, rule_verdict, term_span, span_of}
use Rattle.box_eval.specs.Reach.{Seen, Judged, magnitude, term_seen, rule_judged, term_reach}
use Rattle.box_eval.proofs.Looks.{same_ends}

module _ (ends : List Pair) (a b : Term) where
  pub reach-Sum : term_reach ends (V.Sum a b) ≡ max (magnitude (sum_of (span_of ends a) (span_of ends b))) (max (term_reach ends a) (term_reach ends b))
  unfolding roll-Term roll
  reach-Sum = ap (λ s. s.reach) (fold-roll-Term Judged Seen rule_judged (term_seen ends) (O.Sum a b))
      ∙ ap (λ m. max m (max (term_reach ends a) (term_reach ends b))) (ap magnitude (ap₂ sum_of (same_ends ends a) (same_ends ends b)))

  pub reach-Less : term_reach ends (V.Less a b) ≡ max (magnitude (less_of (span_of ends a) (span_of ends b))) (max (term_reach ends a) (term_reach ends b))
  unfolding roll-Term roll
  reach-Less = ap (λ s. s.reach) (fold-roll-Term Judged Seen rule_judged (term_seen ends) (O.Less a b))
      ∙ ap (λ m. max m (max (term_reach ends a) (term_reach ends b))) (ap magnitude (ap₂ less_of (same_ends ends a) (same_ends ends b)))

  pub reach-Times : term_reach ends (V.Times a b) ≡ max (magnitude (times_of (span_of ends a) (span_of ends b))) (max (term_reach ends a) (term_reach ends b))
  unfolding roll-Term roll
  reach-Times = ap (λ s. s.reach) (fold-roll-Term Judged Seen rule_judged (term_seen ends) (O.Times a b))
      ∙ ap (λ m. max m (max (term_reach ends a) (term_reach ends b))) (ap magnitude (ap₂ times_of (same_ends ends a) (same_ends ends b)))

  pub span-Sum : span_of ends (V.Sum a b) ≡ sum_of (span_of ends a) (span_of ends b)
  unfolding roll-Term roll
  span-Sum = fold-roll-Term Verdict Span rule_verdict (term_span ends) (O.Sum a b)

  pub span-Less : span_of ends (V.Less a b) ≡ less_of (span_of ends a) (span_of ends b)
  unfolding roll-Term roll
  span-Less = fold-roll-Term Verdict Span rule_verdict (term_span ends) (O.Less a b)

  pub span-Times : span_of ends (V.Times a b) ≡ times_of (span_of ends a) (span_of ends b)
  unfolding roll-Term roll
  span-Times = fold-roll-Term Verdict Span rule_verdict (term_span ends) (O.Times a b)

-- a sum, a difference or a product of two terms
abbrev pub IsOfTwo : Term → Term → Term → Type 0
IsOfTwo term a b = (term ≡ V.Sum a b) ⊎ ((term ≡ V.Less a b) ⊎ (term ≡ V.Times a b))

-- which of the three it is, if one of them is known
module _ (A : Type 0) (term a b x y : Term) (is : IsOfTwo term a b) where
  pub if_sum : term ≡ V.Sum x y → (term ≡ V.Sum a b → A) → A
  if_sum e then = ⊎_elim then (⊎_elim (λ other. let never : ⊥ = cc in absurd never) (λ other. let never : ⊥ = cc in absurd never)) is

  pub if_less : term ≡ V.Less x y → (term ≡ V.Less a b → A) → A
  if_less e then = ⊎_elim (λ other. let never : ⊥ = cc in absurd never) (⊎_elim then (λ other. let never : ⊥ = cc in absurd never)) is

  pub if_times : term ≡ V.Times x y → (term ≡ V.Times a b → A) → A
  if_times e then = ⊎_elim (λ other. let never : ⊥ = cc in absurd never) (⊎_elim (λ other. let never : ⊥ = cc in absurd never) then) is

-- a term of two parts that reaches no further than m, and the spans that were found of its parts
pub record Found (ends : List Pair) (term a b : Term) (s t : Span) (m : ℕ) : Type 0 where
  pub is : IsOfTwo term a b
  pub read_a : Term
  pub a_is : read_a ≡ a
  pub first : s ≡ span_of ends read_a
  pub read_b : Term
  pub b_is : read_b ≡ b
  pub second : t ≡ span_of ends read_b
  pub small : term_reach ends term ≤ m

module _ (ends : List Pair) (term a b : Term) (s t : Span) (m : ℕ) (f : Found ends term a b s t m) where
  first : s ≡ span_of ends a
  first = cc

  second : t ≡ span_of ends b
  second = cc

  pub sum_small : (x y : Term) → term ≡ V.Sum x y → magnitude (sum_of s t) ≤ m
  sum_small x y e = if_sum _ term a b x y f.is e (λ is. rw (first, second) (omega (arith, reach-Sum ends a b, ap (term_reach ends) is, f.small)))

  pub less_small : (x y : Term) → term ≡ V.Less x y → magnitude (less_of s t) ≤ m
  less_small x y e = if_less _ term a b x y f.is e (λ is. rw (first, second) (omega (arith, reach-Less ends a b, ap (term_reach ends) is, f.small)))

  pub times_small : (x y : Term) → term ≡ V.Times x y → magnitude (times_of s t) ≤ m
  times_small x y e = if_times _ term a b x y f.is e (λ is. rw (first, second) (omega (arith, reach-Times ends a b, ap (term_reach ends) is, f.small)))

  -- what is the sum, difference or product of the two spans is the term's span
  pub parts_span : (r : Span) → ((x y : Term) → term ≡ V.Sum x y → r ≡ sum_of s t) → ((x y : Term) → term ≡ V.Less x y → r ≡ less_of s t)
      → ((x y : Term) → term ≡ V.Times x y → r ≡ times_of s t) → r ≡ span_of ends term
  parts_span r sum less times = ⊎_elim
      (λ is. sum a b is ∙ ap₂ sum_of first second ∙ sym (ap (span_of ends) is ∙ span-Sum ends a b))
      (⊎_elim
      (λ is. less a b is ∙ ap₂ less_of first second ∙ sym (ap (span_of ends) is ∙ span-Less ends a b))
      (λ is. times a b is ∙ ap₂ times_of first second ∙ sym (ap (span_of ends) is ∙ span-Times ends a b)))
      f.is
