-- Sums of small flat forms: two rules that contradict each other, and a circle of three.
use Rattle.std.proofs.Common.{◌≡◌, [], ◌∷◌, true, false, pos, negsuc}
use Rattle.box_eval.specs.declared.rule.Term.TheVariants as T
use Rattle.box_eval.specs.declared.rule.Rule.TheVariants as R
use Rattle.box_eval.specs.declared.bounds.Pair.{Pair}
use Rattle.box_eval.specs.declared.flat.Flat.{Flat}
use Rattle.box_eval.specs.Box.{pair}
use Rattle.box_eval.proofs.Equations.{folds}
use Rattle.linear_sums.specs.FacingPairs.{pick_of}
use Rattle.linear_sums.specs.Linear.{is_false_sum, rule_weight}

-- ends of a milliard on either side
abbrev ends : Pair
ends = pair (negsuc 999999999) (pos 1000000000)

abbrev two : Flat
two = record { bounds = record { pairs = ends ∷ ends ∷ [] }; rules = R.Below (T.Slot 0) (T.Slot 1) ∷ R.Below (T.Slot 1) (T.Slot 0) ∷ [] }

abbrev three : Flat
three = record {
  bounds = record { pairs = ends ∷ ends ∷ ends ∷ [] };
  rules = R.Below (T.Slot 0) (T.Slot 1) ∷ R.Below (T.Slot 1) (T.Slot 2) ∷ R.Below (T.Slot 2) (T.Slot 0) ∷ [];
}

both_false : is_false_sum two (pick_of 1 0 ∷ pick_of 1 1 ∷ []) (ends ∷ ends ∷ []) ≡ true
both_false = simp folds

one_open : is_false_sum two (pick_of 1 0 ∷ []) (ends ∷ ends ∷ []) ≡ false
one_open = simp folds

circle_false : is_false_sum three (pick_of 1 0 ∷ pick_of 1 1 ∷ pick_of 1 2 ∷ []) (ends ∷ ends ∷ ends ∷ []) ≡ true
circle_false = simp folds

half_open : is_false_sum three (pick_of 1 0 ∷ pick_of 1 1 ∷ []) (ends ∷ ends ∷ ends ∷ []) ≡ false
half_open = simp folds

weight_is : rule_weight (ends ∷ ends ∷ []) (R.Below (T.Slot 0) (T.Slot 1)) ≡ 2000000000
weight_is = simp folds
