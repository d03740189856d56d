-- A rule is its tree, and each tree is a rule's. So a scene has one flat form.
use Rattle.std.proofs.Common.{◌≡◌, refl, sym, ap, ap₂, ◌∙◌, subst, List, [], ◌∷◌, map}
use Rattle.box_eval.specs.declared.rule.Rule.{Rule}
use Rattle.box_eval.specs.declared.rule.Term.{Term}
use Rattle.box_eval.specs.declared.rule.Rule.TheVariants as R
use Rattle.box_eval.specs.declared.rule.Term.TheVariants as T
use Rattle.box_eval.specs.declared.rule.Rule.TheOpen as O
use Rattle.box_eval.specs.declared.rule.Rule.TheOpen.{Rule-F, Term-F}
use Rattle.box_eval.specs.declared.rule.Rule.TheViews.{roll-Rule, roll-Term}
use Rattle.box_eval.specs.declared.rule.Rule.TheFolds.{fold-roll-Rule, fold-roll-Term, ind-Rule, map-Rule, map-Term}
use Rattle.box_eval.specs.declared.bounds.Pair.{Pair}
use Rattle.box_eval.specs.declared.flat.Flat.{Flat}
use Rattle.box_eval.specs.FlatRules.{FlatTerm, FlatRule, Whole, Slot, Sum, Less, Times, Truth, Always, Below, AtMost, Equal, Differ, Both, Either, Not, term_step, rule_step, flat_rule, flat_term}
use Rattle.box_eval.proofs.Equations.{fold-Always, fold-Below, fold-AtMost, fold-Equal, fold-Differ, fold-Both, fold-Either, fold-Not, fold-Whole, fold-Slot, fold-Sum, fold-Less, fold-Times, fold-Truth}
use Rattle.composition.specs.Scenes.{Scene}
use Rattle.field_flatten.specs.Ends.{bounds}
use Rattle.field_flatten.specs.Rules.{rules}
use Rattle.field_flatten.specs.Exactness.{IsFlatOf}
use denote.Hole.Carrier.{roll}

-- ---- the rule of a tree

abbrev mutual
  term_of : FlatTerm → Term
  term_of (Whole number) = T.Whole number
  term_of (Slot slot) = T.Slot slot
  term_of (Sum left right) = T.Sum (term_of left) (term_of right)
  term_of (Less left right) = T.Less (term_of left) (term_of right)
  term_of (Times left right) = T.Times (term_of left) (term_of right)
  term_of (Truth rule) = T.Truth (rule_of rule)

  rule_of : FlatRule → Rule
  rule_of Always = R.Always
  rule_of (Below left right) = R.Below (term_of left) (term_of right)
  rule_of (AtMost left right) = R.AtMost (term_of left) (term_of right)
  rule_of (Equal left right) = R.Equal (term_of left) (term_of right)
  rule_of (Differ left right) = R.Differ (term_of left) (term_of right)
  rule_of (Both left right) = R.Both (rule_of left) (rule_of right)
  rule_of (Either left right) = R.Either (rule_of left) (rule_of right)
  rule_of (Not part) = R.Not (rule_of part)

-- ---- its tree is the tree again

mutual
  term_tree : (t : FlatTerm) → flat_term (term_of t) ≡ t
  term_tree (Whole number) = fold-Whole FlatRule FlatTerm rule_step term_step number
  term_tree (Slot slot) = fold-Slot FlatRule FlatTerm rule_step term_step slot
  term_tree (Sum a b) = fold-Sum FlatRule FlatTerm rule_step term_step (term_of a) (term_of b) ∙ ap₂ Sum (term_tree a) (term_tree b)
  term_tree (Less a b) = fold-Less FlatRule FlatTerm rule_step term_step (term_of a) (term_of b) ∙ ap₂ Less (term_tree a) (term_tree b)
  term_tree (Times a b) = fold-Times FlatRule FlatTerm rule_step term_step (term_of a) (term_of b) ∙ ap₂ Times (term_tree a) (term_tree b)
  term_tree (Truth rule) = fold-Truth FlatRule FlatTerm rule_step term_step (rule_of rule) ∙ ap Truth (rule_tree rule)

  rule_tree : (r : FlatRule) → flat_rule (rule_of r) ≡ r
  rule_tree Always = fold-Always FlatRule FlatTerm rule_step term_step
  rule_tree (Below a b) = fold-Below FlatRule FlatTerm rule_step term_step (term_of a) (term_of b) ∙ ap₂ Below (term_tree a) (term_tree b)
  rule_tree (AtMost a b) = fold-AtMost FlatRule FlatTerm rule_step term_step (term_of a) (term_of b) ∙ ap₂ AtMost (term_tree a) (term_tree b)
  rule_tree (Equal a b) = fold-Equal FlatRule FlatTerm rule_step term_step (term_of a) (term_of b) ∙ ap₂ Equal (term_tree a) (term_tree b)
  rule_tree (Differ a b) = fold-Differ FlatRule FlatTerm rule_step term_step (term_of a) (term_of b) ∙ ap₂ Differ (term_tree a) (term_tree b)
  rule_tree (Both a b) = fold-Both FlatRule FlatTerm rule_step term_step (rule_of a) (rule_of b) ∙ ap₂ Both (rule_tree a) (rule_tree b)
  rule_tree (Either a b) = fold-Either FlatRule FlatTerm rule_step term_step (rule_of a) (rule_of b) ∙ ap₂ Either (rule_tree a) (rule_tree b)
  rule_tree (Not a) = fold-Not FlatRule FlatTerm rule_step term_step (rule_of a) ∙ ap Not (rule_tree a)

trees : (rs : List FlatRule) → map flat_rule (map rule_of rs) ≡ rs
trees [] = refl
trees (r ∷ rs) = ap₂ (λ x xs. x ∷ xs) (rule_tree r) (trees rs)

-- ---- the rule of its tree is the rule again

abbrev SameRule : Rule → Type 0
SameRule r = rule_of (flat_rule r) ≡ r

abbrev SameTerm : Term → Type 0
SameTerm t = term_of (flat_term t) ≡ t

abbrev SuchRule : Type 0
SuchRule = (r : Rule) × SameRule r

abbrev SuchTerm : Type 0
SuchTerm = (t : Term) × SameTerm t

abbrev bare_rule : Rule-F SuchRule SuchTerm → Rule-F Rule Term
bare_rule = map-Rule SuchRule SuchTerm Rule Term (λ e. e.0) (λ e. e.0)

abbrev bare_term : Term-F SuchRule SuchTerm → Term-F Rule Term
bare_term = map-Term SuchRule SuchTerm Rule Term (λ e. e.0) (λ e. e.0)

tree_of : (x : Rule-F Rule Term) → flat_rule (roll-Rule x) ≡ rule_step (map-Rule Rule Term FlatRule FlatTerm flat_rule flat_term x)
tree_of x = fold-roll-Rule FlatRule FlatTerm rule_step term_step x

tree_of_term : (x : Term-F Rule Term) → flat_term (roll-Term x) ≡ term_step (map-Term Rule Term FlatRule FlatTerm flat_rule flat_term x)
tree_of_term x = fold-roll-Term FlatRule FlatTerm rule_step term_step x

layer : (y : Rule-F SuchRule SuchTerm) → rule_of (rule_step (map-Rule Rule Term FlatRule FlatTerm flat_rule flat_term (bare_rule y))) ≡ roll-Rule (bare_rule y)
unfolding roll-Rule roll
layer O.Always = refl
layer (O.Below a b) = ap₂ R.Below a.1 b.1
layer (O.AtMost a b) = ap₂ R.AtMost a.1 b.1
layer (O.Equal a b) = ap₂ R.Equal a.1 b.1
layer (O.Differ a b) = ap₂ R.Differ a.1 b.1
layer (O.Both a b) = ap₂ R.Both a.1 b.1
layer (O.Either a b) = ap₂ R.Either a.1 b.1
layer (O.Not a) = ap R.Not a.1

term_layer : (y : Term-F SuchRule SuchTerm) → term_of (term_step (map-Term Rule Term FlatRule FlatTerm flat_rule flat_term (bare_term y))) ≡ roll-Term (bare_term y)
unfolding roll-Term roll
term_layer (O.Whole number) = refl
term_layer (O.Slot slot) = refl
term_layer (O.Sum a b) = ap₂ T.Sum a.1 b.1
term_layer (O.Less a b) = ap₂ T.Less a.1 b.1
term_layer (O.Times a b) = ap₂ T.Times a.1 b.1
term_layer (O.Truth r) = ap T.Truth r.1

at_rule : (x : Rule-F Rule Term) (y : Rule-F SuchRule SuchTerm) → bare_rule y ≡ x → SameRule (roll-Rule x)
at_rule x y is = subst (λ z. SameRule (roll-Rule z)) is (ap rule_of (tree_of (bare_rule y)) ∙ layer y)

at_term : (x : Term-F Rule Term) (y : Term-F SuchRule SuchTerm) → bare_term y ≡ x → SameTerm (roll-Term x)
at_term x y is = subst (λ z. SameTerm (roll-Term z)) is (ap term_of (tree_of_term (bare_term y)) ∙ term_layer y)

rule_again : (r : Rule) → SameRule r
rule_again = ind-Rule SameRule SameTerm at_rule at_term

rules_again : (rs : List Rule) → map rule_of (map flat_rule rs) ≡ rs
rules_again [] = refl
rules_again (r ∷ rs) = ap₂ (λ x xs. x ∷ xs) (rule_again r) (rules_again rs)

-- ---- flat forms

form : List Pair → List Rule → Flat
form pairs rules = record { bounds = record { pairs = pairs }; rules = rules }

same_form : (a b : Flat) → a.bounds.pairs ≡ b.bounds.pairs → a.rules ≡ b.rules → a ≡ b
unfolding form
same_form a b pairs rules = ap (λ (ps : List Pair). form ps a.rules) pairs ∙ ap (form b.bounds.pairs) rules

-- a scene has one flat form
pub one_form : (scene : Scene) (a b : Flat) → IsFlatOf scene a → IsFlatOf scene b → a ≡ b
one_form scene a b one other =
    same_form a b (one.same_ends ∙ sym other.same_ends)
    (sym (rules_again a.rules) ∙ ap (map rule_of) (one.same_rules ∙ sym other.same_rules) ∙ rules_again b.rules)

-- and it has one
pub form_of : Scene → Flat
form_of scene = form (bounds scene) (map rule_of (rules scene))

pub form_is : (scene : Scene) → IsFlatOf scene (form_of scene)
unfolding form_of form
form_is scene = record { same_ends = refl; same_rules = trees (rules scene) }
