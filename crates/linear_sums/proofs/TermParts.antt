-- What definitions say of a term made of two parts.
use Rattle.std.proofs.Common.{◌≡◌, sym, ap, ap₂, ◌∙◌, ℕ, ◌+◌, ◌*◌, ◌<◌, ◌≤◌, max, List, arith}
use Rattle.box_eval.specs.declared.rule.Term.{Term}
use Rattle.box_eval.specs.declared.rule.Rule.TheOpen as O
use Rattle.box_eval.specs.declared.rule.Rule.TheViews as V
use Rattle.box_eval.specs.declared.rule.Rule.TheViews.{roll-Term, size-Term}
use Rattle.box_eval.specs.declared.rule.Rule.TheFolds.{fold-roll-Term}
use denote.Hole.Carrier.{roll}
use Rattle.box_eval.specs.declared.bounds.Pair.{Pair}
use Rattle.box_eval.specs.Reach.{greatest_in_rule, slots_in_term, term_slot_bound}
use Rattle.linear_sums.specs.Linear.{TermForm, RuleForm, form_plus, form_less, form_times, term_form, rule_form, form_of_term, weight_of_parts, weight_of_terms, term_weight}
use Rattle.linear_sums.proofs.Weights.{some_weight, part_left, part_right}

-- ---- two parts of one view

module _ (a b : Term) where
  form_Sum : form_of_term (V.Sum a b) ≡ form_plus (form_of_term a) (form_of_term b)
  unfolding roll-Term roll
  form_Sum = fold-roll-Term RuleForm TermForm rule_form term_form (O.Sum a b)

  form_Less : form_of_term (V.Less a b) ≡ form_less (form_of_term a) (form_of_term b)
  unfolding roll-Term roll
  form_Less = fold-roll-Term RuleForm TermForm rule_form term_form (O.Less a b)

  form_Times : form_of_term (V.Times a b) ≡ form_times (form_of_term a) (form_of_term b)
  unfolding roll-Term roll
  form_Times = fold-roll-Term RuleForm TermForm rule_form term_form (O.Times a b)

  slots_Sum : term_slot_bound (V.Sum a b) ≡ max (term_slot_bound a) (term_slot_bound b)
  unfolding roll-Term roll
  slots_Sum = fold-roll-Term ℕ ℕ greatest_in_rule slots_in_term (O.Sum a b)

  slots_Less : term_slot_bound (V.Less a b) ≡ max (term_slot_bound a) (term_slot_bound b)
  unfolding roll-Term roll
  slots_Less = fold-roll-Term ℕ ℕ greatest_in_rule slots_in_term (O.Less a b)

  slots_Times : term_slot_bound (V.Times a b) ≡ max (term_slot_bound a) (term_slot_bound b)
  unfolding roll-Term roll
  slots_Times = fold-roll-Term ℕ ℕ greatest_in_rule slots_in_term (O.Times a b)

  module _ (ends : List Pair) where
    weight_Sum : term_weight ends (V.Sum a b) ≡ term_weight ends a + term_weight ends b
    unfolding roll-Term roll
    weight_Sum = fold-roll-Term ℕ ℕ weight_of_terms (weight_of_parts ends) (O.Sum a b)

    weight_Less : term_weight ends (V.Less a b) ≡ term_weight ends a + term_weight ends b
    unfolding roll-Term roll
    weight_Less = fold-roll-Term ℕ ℕ weight_of_terms (weight_of_parts ends) (O.Less a b)

    weight_Times : term_weight ends (V.Times a b) ≡ term_weight ends a * term_weight ends b
    unfolding roll-Term roll
    weight_Times = fold-roll-Term ℕ ℕ weight_of_terms (weight_of_parts ends) (O.Times a b)

-- ---- the parts of a term as they were read

-- a sum, a difference or a product of two terms, with what definitions say of it
pub record Joined (joined : TermForm → TermForm → TermForm) (weigh : ℕ → ℕ → ℕ) (term x y : Term) : Type 0 where
  pub form : form_of_term term ≡ joined (form_of_term x) (form_of_term y)
  pub weight : (ends : List Pair) → term_weight ends term ≡ weigh (term_weight ends x) (term_weight ends y)
  pub slots : term_slot_bound term ≡ max (term_slot_bound x) (term_slot_bound y)
  pub first : size-Term x < size-Term term
  pub second : size-Term y < size-Term term

module _ (term a b x y : Term) (p : x ≡ a) (q : y ≡ b) where
  pub of_sum : term ≡ V.Sum a b → Joined form_plus (λ m n. m + n) term x y
  of_sum e = record {
    form = ap form_of_term e ∙ form_Sum a b ∙ sym (ap₂ (λ s t. form_plus (form_of_term s) (form_of_term t)) p q);
    weight = λ ends. ap (term_weight ends) e ∙ weight_Sum a b ends ∙ sym (ap₂ (λ s t. term_weight ends s + term_weight ends t) p q);
    slots = ap term_slot_bound e ∙ slots_Sum a b ∙ sym (ap₂ (λ s t. max (term_slot_bound s) (term_slot_bound t)) p q);
    first = omega (arith, ap size-Term e, V.sized-Sum a b, ap size-Term p);
    second = omega (arith, ap size-Term e, V.sized-Sum a b, ap size-Term q);
  }

  pub of_less : term ≡ V.Less a b → Joined form_less (λ m n. m + n) term x y
  of_less e = record {
    form = ap form_of_term e ∙ form_Less a b ∙ sym (ap₂ (λ s t. form_less (form_of_term s) (form_of_term t)) p q);
    weight = λ ends. ap (term_weight ends) e ∙ weight_Less a b ends ∙ sym (ap₂ (λ s t. term_weight ends s + term_weight ends t) p q);
    slots = ap term_slot_bound e ∙ slots_Less a b ∙ sym (ap₂ (λ s t. max (term_slot_bound s) (term_slot_bound t)) p q);
    first = omega (arith, ap size-Term e, V.sized-Less a b, ap size-Term p);
    second = omega (arith, ap size-Term e, V.sized-Less a b, ap size-Term q);
  }

  pub of_times : term ≡ V.Times a b → Joined form_times (λ m n. m * n) term x y
  of_times e = record {
    form = ap form_of_term e ∙ form_Times a b ∙ sym (ap₂ (λ s t. form_times (form_of_term s) (form_of_term t)) p q);
    weight = λ ends. ap (term_weight ends) e ∙ weight_Times a b ends ∙ sym (ap₂ (λ s t. term_weight ends s * term_weight ends t) p q);
    slots = ap term_slot_bound e ∙ slots_Times a b ∙ sym (ap₂ (λ s t. max (term_slot_bound s) (term_slot_bound t)) p q);
    first = omega (arith, ap size-Term e, V.sized-Times a b, ap size-Term p);
    second = omega (arith, ap size-Term e, V.sized-Times a b, ap size-Term q);
  }

-- the parts of a product weigh no more than the product
module _ (ends : List Pair) (term x y : Term) (j : Joined form_times (λ m n. m * n) term x y) where
  pub first_weight : term_weight ends x ≤ term_weight ends term
  first_weight = omega (arith, j.weight ends, part_left (term_weight ends x) (term_weight ends y) (some_weight ends y))

  pub second_weight : term_weight ends y ≤ term_weight ends term
  second_weight = omega (arith, j.weight ends, part_right (term_weight ends x) (term_weight ends y) (some_weight ends x))
