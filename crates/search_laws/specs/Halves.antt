-- The first part of a cut by its number of values, and the longest on which a rule is false.
use Rattle.std.specs.Prelude.{◌≡◌, ℕ, ◌+◌, ◌<◌, ◌≤◌, true, not, ◌||◌, nat_le, List, unsigned_abs, ℤ, pos, ◌+ℤ◌, ◌-ℤ◌}
use Rattle.box_eval.specs.declared.rule.Rule.{Rule}
use Rattle.box_eval.specs.declared.bounds.Pair.{Pair}
use Rattle.box_eval.specs.declared.cut.Cut.{Cut}
use Rattle.box_eval.specs.declared.cut.Side.{Side}
use Rattle.box_eval.specs.declared.cut.Side.TheVariants.{Low, High}
use Rattle.box_eval.specs.Box.{pair, low_at, high_at, first_at, IsCutOf, first_part}
use Rattle.box_eval.specs.Verdict.{verdict_of}
use Rattle.record_trees.specs.Record.{is_false, may_close}
use Rattle.record_trees.specs.Guided.{is_longest}

-- the value of the cut whose first part has so many values of a slot
abbrev pub value_at : Side → ℤ → ℤ → ℕ → ℤ
value_at Low low high count = low +ℤ pos count -ℤ pos 1
value_at High low high count = high -ℤ pos count

-- the ends of the slot in the first part of a cut
abbrev pub first_pair : Side → Pair → ℤ → Pair
first_pair Low ends value = pair ends.low value
first_pair High ends value = pair (value +ℤ pos 1) ends.high

-- how many more values than one a slot has
abbrev pub width : List Pair → ℕ → ℕ
width ends slot = unsigned_abs (high_at ends slot -ℤ low_at ends slot)

-- the first part with so many values of the slot
abbrev pub part_of : Side → List Pair → ℕ → ℕ → List Pair
part_of side ends slot count = first_at side ends slot (value_at side (low_at ends slot) (high_at ends slot) count)

-- the rule is false on the first part with `least` values, and not on that with one more than `most`, if this leaves the second part a value
pub record IsHalved (ends : List Pair) (rule : Rule) (slot : ℕ) (side : Side) (least most : ℕ) : Type 0 where
  pub some : 0 < least
  pub ordered : least ≤ most
  pub within : most ≤ width ends slot
  pub false_there : is_false (verdict_of (part_of side ends slot least) rule) ≡ true
  pub not_after : nat_le (width ends slot) most || not (is_false (verdict_of (part_of side ends slot (most + 1)) rule)) ≡ true

-- a cut whose first part a rule closes, and no longer one
pub record IsLongest (rules : List Rule) (ends : List Pair) (number : ℕ) (cut : Cut) : Type 0 where
  pub cuts : IsCutOf ends cut
  pub closes : may_close rules (first_part cut ends) number ≡ true
  pub longest : is_longest rules ends cut number ≡ true
