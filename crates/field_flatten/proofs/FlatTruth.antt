-- The tree of a rule holds at a point exactly if the rule is true there.
use Rattle.std.proofs.Common.{◌≡◌, refl, sym, ap, ap₂, ◌∙◌, List, [], ◌∷◌, Bool, true, not, ◌&&◌, ◌||◌, map}
use Rattle.std.specs.Prelude.{ℤ, ◌+ℤ◌, ◌-ℤ◌, ◌*ℤ◌, int_lt, int_le}
use Rattle.std.specs.List.{list_all}
use Rattle.box_eval.specs.declared.rule.Rule.{Rule}
use Rattle.box_eval.specs.declared.rule.Rule.TheOpen.{Rule-F, Term-F, Always, Below, AtMost, Equal, Differ, Both, Either, Not, Whole, Slot, Sum, Less, Times, Truth}
use Rattle.box_eval.specs.Truth.{is_same, as_number, rule_truth, term_value, true_at}
use Rattle.box_eval.specs.Rules.{Meets}
use Rattle.box_eval.specs.FlatRules.{FlatTerm, FlatRule, rule_step, term_step, flat_rule, worth_at, holds_at}
use Rattle.box_eval.proofs.Folds.{Two, rule_ones, rule_others, term_ones, term_others, rule_law}
use Rattle.field_flatten.proofs.Tests.{left_of, right_of, both}

module _ (point : List ℤ) where
  abbrev SameTruth : FlatRule → Bool → Type 0
  SameTruth rule truth = holds_at point rule ≡ truth

  abbrev SameWorth : FlatTerm → ℤ → Type 0
  SameWorth term value = worth_at point term ≡ value

  abbrev A : Type 0
  A = Two FlatRule Bool SameTruth

  abbrev B : Type 0
  B = Two FlatTerm ℤ SameWorth

  rule_same : (x : Rule-F A B) → SameTruth (rule_step (rule_ones FlatRule Bool FlatTerm ℤ SameTruth SameWorth x)) (rule_truth (rule_others FlatRule Bool FlatTerm ℤ SameTruth SameWorth x))
  rule_same Always = refl
  rule_same (Below a b) = ap₂ int_lt a.related b.related
  rule_same (AtMost a b) = ap₂ int_le a.related b.related
  rule_same (Equal a b) = ap₂ is_same a.related b.related
  rule_same (Differ a b) = ap not (ap₂ is_same a.related b.related)
  rule_same (Both a b) = ap₂ (◌&&◌) a.related b.related
  rule_same (Either a b) = ap₂ (◌||◌) a.related b.related
  rule_same (Not a) = ap not a.related

  term_same : (x : Term-F A B) → SameWorth (term_step (term_ones FlatRule Bool FlatTerm ℤ SameTruth SameWorth x)) (term_value point (term_others FlatRule Bool FlatTerm ℤ SameTruth SameWorth x))
  term_same (Whole n) = refl
  term_same (Slot s) = refl
  term_same (Sum a b) = ap₂ (◌+ℤ◌) a.related b.related
  term_same (Less a b) = ap₂ (◌-ℤ◌) a.related b.related
  term_same (Times a b) = ap₂ (◌*ℤ◌) a.related b.related
  term_same (Truth r) = ap as_number r.related

  pub flat_truth : (rule : Rule) → holds_at point (flat_rule rule) ≡ true_at point rule
  flat_truth = rule_law FlatRule Bool FlatTerm ℤ SameTruth SameWorth rule_step term_step rule_truth (term_value point) rule_same term_same

  pub meets_all : (rules : List Rule) → Meets point rules → list_all (holds_at point) (map flat_rule rules) ≡ true
  meets_all [] h = refl
  meets_all (r ∷ rs) h = both (holds_at point (flat_rule r)) (list_all (holds_at point) (map flat_rule rs)) (flat_truth r ∙ h.0) (meets_all rs h.1)

  pub all_meets : (rules : List Rule) → list_all (holds_at point) (map flat_rule rules) ≡ true → Meets point rules
  all_meets [] h = tt
  all_meets (r ∷ rs) h = (
    sym (flat_truth r) ∙ left_of (holds_at point (flat_rule r)) (list_all (holds_at point) (map flat_rule rs)) h,
    all_meets rs (right_of (holds_at point (flat_rule r)) (list_all (holds_at point) (map flat_rule rs)) h),
  )
