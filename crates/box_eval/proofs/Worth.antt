-- At a point within reach, sums, differences and products fit 128 bits.
use Rattle.std.proofs.Common.{◌≡◌, ◌≤◌, ◌^◌, Bool, List, ℤ, ◌+ℤ◌, ◌-ℤ◌, ◌*ℤ◌, FitsSigned, ⊎_elim, ap, ap₂, sym, subst, ◌∙◌, arith}
use Rattle.std.proofs.lemmas.Int.{ints}
use Rattle.std.specs.Int.{w128}
use Rattle.box_eval.specs.declared.rule.Rule.TheViews as V
use Rattle.box_eval.specs.declared.rule.Rule.TheViews.{roll-Term}
use Rattle.box_eval.specs.declared.rule.Rule.TheOpen as O
use Rattle.box_eval.specs.declared.rule.Rule.TheFolds.{fold-roll-Term}
use denote.Hole.Carrier.{roll}
use Rattle.box_eval.specs.declared.rule.Term.{Term}
use Rattle.box_eval.specs.declared.verdict.Span.{Span}
use Rattle.box_eval.specs.Box.{box_of}
use Rattle.box_eval.specs.Truth.{rule_truth, term_value, value_at}
use Rattle.box_eval.specs.Reach.{magnitude, term_reach}
use Rattle.box_eval.proofs.Points.{twice, times_twice, point_twice}
use Rattle.box_eval.proofs.Reading.{IsOfTwo, Found, sum_small, less_small, times_small}

-- a term of two parts that reaches no further than 2^120 at a point, and the values that were found of its parts
pub record Worth (point : List ℤ) (term a b : Term) (s t : ℤ) : Type 0 where
  pub is : IsOfTwo term a b
  pub read_a : Term
  pub a_is : read_a ≡ a
  pub first : s ≡ value_at point read_a
  pub read_b : Term
  pub b_is : read_b ≡ b
  pub second : t ≡ value_at point read_b
  pub small : term_reach (box_of point) term ≤ 2 ^ 120

small_fits : (n : ℤ) → magnitude (twice n) ≤ 2 ^ 120 → FitsSigned w128 n
small_fits n h = omega (arith, ints)

module _ (point : List ℤ) (a b : Term) where
  value-Sum : value_at point (V.Sum a b) ≡ value_at point a +ℤ value_at point b
  unfolding roll-Term roll
  value-Sum = fold-roll-Term Bool ℤ rule_truth (term_value point) (O.Sum a b)

  value-Less : value_at point (V.Less a b) ≡ value_at point a -ℤ value_at point b
  unfolding roll-Term roll
  value-Less = fold-roll-Term Bool ℤ rule_truth (term_value point) (O.Less a b)

  value-Times : value_at point (V.Times a b) ≡ value_at point a *ℤ value_at point b
  unfolding roll-Term roll
  value-Times = fold-roll-Term Bool ℤ rule_truth (term_value point) (O.Times a b)

module _ (point : List ℤ) (term a b : Term) (s t : ℤ) (w : Worth point term a b s t) where
  found : Found (box_of point) term a b (twice s) (twice t) (2 ^ 120)
  found = record {
    is = w.is;
    read_a = w.read_a;
    a_is = w.a_is;
    first = ap twice w.first ∙ sym (point_twice point w.read_a);
    read_b = w.read_b;
    b_is = w.b_is;
    second = ap twice w.second ∙ sym (point_twice point w.read_b);
    small = w.small;
  }

  first : s ≡ value_at point a
  first = cc

  second : t ≡ value_at point b
  second = cc

  pub sum_fits : (x y : Term) → term ≡ V.Sum x y → FitsSigned w128 (s +ℤ t)
  sum_fits x y e = small_fits (s +ℤ t) (sum_small (box_of point) term a b (twice s) (twice t) (2 ^ 120) found x y e)

  pub less_fits : (x y : Term) → term ≡ V.Less x y → FitsSigned w128 (s -ℤ t)
  less_fits x y e = small_fits (s -ℤ t) (less_small (box_of point) term a b (twice s) (twice t) (2 ^ 120) found x y e)

  pub times_fits : (x y : Term) → term ≡ V.Times x y → FitsSigned w128 (s *ℤ t)
  times_fits x y e = small_fits (s *ℤ t)
      (subst (λ (p : Span). magnitude p ≤ 2 ^ 120) (times_twice s t) (times_small (box_of point) term a b (twice s) (twice t) (2 ^ 120) found x y e))

  -- what is the sum, difference or product of the two values is the term's value
  pub parts_value : (r : ℤ) → ((x y : Term) → term ≡ V.Sum x y → r ≡ s +ℤ t) → ((x y : Term) → term ≡ V.Less x y → r ≡ s -ℤ t)
      → ((x y : Term) → term ≡ V.Times x y → r ≡ s *ℤ t) → r ≡ value_at point term
  parts_value r sum less times = ⊎_elim
      (λ is. sum a b is ∙ ap₂ (λ (m n : ℤ). m +ℤ n) first second ∙ sym (ap (value_at point) is ∙ value-Sum point a b))
      (⊎_elim
      (λ is. less a b is ∙ ap₂ (λ (m n : ℤ). m -ℤ n) first second ∙ sym (ap (value_at point) is ∙ value-Less point a b))
      (λ is. times a b is ∙ ap₂ (λ (m n : ℤ). m *ℤ n) first second ∙ sym (ap (value_at point) is ∙ value-Times point a b)))
      w.is
