-- Lists of rules over a box.
use Rattle.std.specs.Prelude.{◌≡◌, ◌≤◌, ◌<◌, ◌^◌, true, List, [], ◌∷◌, length, ⊤, ℤ}
use Rattle.box_eval.specs.declared.rule.Rule.{Rule}
use Rattle.box_eval.specs.declared.bounds.Pair.{Pair}
use Rattle.box_eval.specs.declared.flat.Flat.{Flat}
use Rattle.box_eval.specs.Box.{IsBox, IsPointOf}
use Rattle.box_eval.specs.Truth.{true_at}
use Rattle.box_eval.specs.Reach.{slot_bound, reach_of}

-- every rule is true at the point
abbrev pub Meets : List ℤ → List Rule → Type 0
Meets point [] = ⊤
Meets point (rule ∷ rules) = (true_at point rule ≡ true) × Meets point rules

-- no point of the box meets all rules
abbrev pub IsEmpty : List Rule → List Pair → Type 0
IsEmpty rules ends = (point : List ℤ) → IsPointOf ends point → Meets point rules → ⊥

-- a rule that may be judged on a box: its slots are those of the box, and no term within it reaches beyond 2^120
pub record CanJudge (ends : List Pair) (rule : Rule) : Type 0 where
  pub slots : slot_bound rule ≤ length ends
  pub reach : reach_of ends rule ≤ 2 ^ 120

-- every rule may be judged on the box, and so on each smaller one
abbrev pub AllFit : List Pair → List Rule → Type 0
AllFit ends [] = ⊤
AllFit ends (rule ∷ rules) = CanJudge ends rule × AllFit ends rules

-- what holds of every flat form: its ends are a box on which every rule may be judged, and it has fewer than 2^32 slots and rules
pub record IsFlat (flat : Flat) : Type 0 where
  pub box : IsBox flat.bounds.pairs
  pub fit : AllFit flat.bounds.pairs flat.rules
  pub few_slots : length flat.bounds.pairs < 2 ^ 32
  pub few_rules : length flat.rules < 2 ^ 32
