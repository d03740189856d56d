-- Rules that may be judged on a box may be judged on each smaller one.
use Rattle.std.proofs.Common.{◌≡◌, ℕ, suc, zero, List, [], ◌∷◌, slice_get, Some, true, ℤ, arith, subst}
use Rattle.box_eval.specs.declared.rule.Rule.{Rule}
use Rattle.box_eval.specs.declared.bounds.Pair.{Pair}
use Rattle.box_eval.specs.Box.{IsBox, IsInside, IsPointOf, box_of}
use Rattle.box_eval.specs.Truth.{true_at}
use Rattle.box_eval.specs.Rules.{Meets, CanJudge, AllFit}
use Rattle.box_eval.proofs.Points.{box_of-box, point_inside}
use Rattle.box_eval.proofs.Reaches.{smaller_reach}

pub fits_at : (ends : List Pair) (rules : List Rule) (k : ℕ) (rule : Rule) → AllFit ends rules → slice_get rules k ≡ Some rule → CanJudge ends rule
fits_at ends [] k rule all is = cc
fits_at ends (r ∷ rs) zero rule all is = let e : r ≡ rule = cc in subst (CanJudge ends) e all.0
fits_at ends (r ∷ rs) (suc k) rule all is = fits_at ends rs k rule all.1 is

pub can_judge_inside : (smaller ends : List Pair) (rule : Rule) → IsBox smaller → IsInside smaller ends → CanJudge ends rule → CanJudge smaller rule
can_judge_inside smaller ends rule box inside can = record {
  slots = omega (arith, can.slots, inside.as_long);
  reach = omega (arith, can.reach, smaller_reach smaller ends box inside rule);
}

-- and at each point of the box
pub can_judge_point : (ends : List Pair) (rule : Rule) (point : List ℤ) → IsPointOf ends point → CanJudge ends rule → CanJudge (box_of point) rule
can_judge_point ends rule point p can = can_judge_inside (box_of point) ends rule (box_of-box point) (point_inside ends point p) can

pub fit_inside : (smaller ends : List Pair) (rules : List Rule) → IsBox smaller → IsInside smaller ends → AllFit ends rules → AllFit smaller rules
fit_inside smaller ends [] box inside all = tt
fit_inside smaller ends (r ∷ rs) box inside all =
    (can_judge_inside smaller ends r box inside all.0, fit_inside smaller ends rs box inside all.1)

pub meets_at : (point : List ℤ) (rules : List Rule) (k : ℕ) (rule : Rule) → Meets point rules → slice_get rules k ≡ Some rule → true_at point rule ≡ true
meets_at point [] k rule all is = cc
meets_at point (r ∷ rs) zero rule all is = let e : r ≡ rule = cc in subst (λ (s : Rule). true_at point s ≡ true) e all.0
meets_at point (r ∷ rs) (suc k) rule all is = meets_at point rs k rule all.1 is
