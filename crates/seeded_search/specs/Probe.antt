-- When a rule may be judged on parts of a box.
use Rattle.std.specs.Prelude.{ℕ, ◌<◌, ◌≤◌, List, length, unsigned_abs, ◌-ℤ◌, ◌≤ℤ◌}
use Rattle.box_eval.specs.declared.rule.Rule.{Rule}
use Rattle.box_eval.specs.declared.bounds.Pair.{Pair}
use Rattle.box_eval.specs.Box.{IsBox}
use Rattle.box_eval.specs.Rules.{CanJudge}

-- a rule that may be judged on a box, and a slot of the box
pub record IsProbe (ends : List Pair) (rule : Rule) (slot : ℕ) : Type 0 where
  pub box : IsBox ends
  pub can : CanJudge ends rule
  pub there : slot < length ends

-- a number of values of a slot that leaves it one or more
pub record IsPartOf (ends : Pair) (count : ℕ) : Type 0 where
  pub ordered : ends.low ≤ℤ ends.high
  pub some : 0 < count
  pub most : count ≤ unsigned_abs (ends.high -ℤ ends.low)
