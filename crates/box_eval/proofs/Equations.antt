-- What a fold over rules gives at each form of a rule and of a term.
use Rattle.std.proofs.Common.{◌≡◌, ℕ, ℤ}
use Rattle.box_eval.specs.declared.rule.Rule.{Rule}
use Rattle.box_eval.specs.declared.rule.Term.{Term}
use Rattle.box_eval.specs.declared.rule.Rule.TheVariants as R
use Rattle.box_eval.specs.declared.rule.Term.TheVariants as T
use Rattle.box_eval.specs.declared.rule.Rule.TheOpen as O
use Rattle.box_eval.specs.declared.rule.Rule.TheOpen.{Rule-F, Term-F}
use Rattle.box_eval.specs.declared.rule.Rule.TheViews.{roll-Rule, roll-Term}
use Rattle.box_eval.specs.declared.rule.Rule.TheFolds.{fold-Rule, fold-Term, fold-roll-Rule, fold-roll-Term}
use denote.Hole.Carrier.{roll}

module _ (A B : Type 0) (f : Rule-F A B → A) (g : Term-F A B → B) where
  abbrev rule_at : Rule → A
  rule_at = fold-Rule A B f g

  abbrev term_at : Term → B
  term_at = fold-Term A B f g

  pub fold-Always : rule_at R.Always ≡ f O.Always
  unfolding roll-Rule roll
  fold-Always = fold-roll-Rule A B f g O.Always

  pub fold-Below : (a b : Term) → rule_at (R.Below a b) ≡ f (O.Below (term_at a) (term_at b))
  unfolding roll-Rule roll
  fold-Below a b = fold-roll-Rule A B f g (O.Below a b)

  pub fold-AtMost : (a b : Term) → rule_at (R.AtMost a b) ≡ f (O.AtMost (term_at a) (term_at b))
  unfolding roll-Rule roll
  fold-AtMost a b = fold-roll-Rule A B f g (O.AtMost a b)

  pub fold-Equal : (a b : Term) → rule_at (R.Equal a b) ≡ f (O.Equal (term_at a) (term_at b))
  unfolding roll-Rule roll
  fold-Equal a b = fold-roll-Rule A B f g (O.Equal a b)

  pub fold-Differ : (a b : Term) → rule_at (R.Differ a b) ≡ f (O.Differ (term_at a) (term_at b))
  unfolding roll-Rule roll
  fold-Differ a b = fold-roll-Rule A B f g (O.Differ a b)

  pub fold-Both : (a b : Rule) → rule_at (R.Both a b) ≡ f (O.Both (rule_at a) (rule_at b))
  unfolding roll-Rule roll
  fold-Both a b = fold-roll-Rule A B f g (O.Both a b)

  pub fold-Either : (a b : Rule) → rule_at (R.Either a b) ≡ f (O.Either (rule_at a) (rule_at b))
  unfolding roll-Rule roll
  fold-Either a b = fold-roll-Rule A B f g (O.Either a b)

  pub fold-Not : (a : Rule) → rule_at (R.Not a) ≡ f (O.Not (rule_at a))
  unfolding roll-Rule roll
  fold-Not a = fold-roll-Rule A B f g (O.Not a)

  pub fold-Whole : (n : ℤ) → term_at (T.Whole n) ≡ g (O.Whole n)
  unfolding roll-Term roll
  fold-Whole n = fold-roll-Term A B f g (O.Whole n)

  pub fold-Slot : (slot : ℕ) → term_at (T.Slot slot) ≡ g (O.Slot slot)
  unfolding roll-Term roll
  fold-Slot slot = fold-roll-Term A B f g (O.Slot slot)

  pub fold-Sum : (a b : Term) → term_at (T.Sum a b) ≡ g (O.Sum (term_at a) (term_at b))
  unfolding roll-Term roll
  fold-Sum a b = fold-roll-Term A B f g (O.Sum a b)

  pub fold-Less : (a b : Term) → term_at (T.Less a b) ≡ g (O.Less (term_at a) (term_at b))
  unfolding roll-Term roll
  fold-Less a b = fold-roll-Term A B f g (O.Less a b)

  pub fold-Times : (a b : Term) → term_at (T.Times a b) ≡ g (O.Times (term_at a) (term_at b))
  unfolding roll-Term roll
  fold-Times a b = fold-roll-Term A B f g (O.Times a b)

  pub fold-Truth : (a : Rule) → term_at (T.Truth a) ≡ g (O.Truth (rule_at a))
  unfolding roll-Term roll
  fold-Truth a = fold-roll-Term A B f g (O.Truth a)

-- all of them, for `simp`
pub ruleset folds = (fold-Always, fold-Below, fold-AtMost, fold-Equal, fold-Differ, fold-Both, fold-Either, fold-Not, fold-Whole, fold-Slot, fold-Sum, fold-Less, fold-Times, fold-Truth)
