-- The boxes and the rule that are judged.
use Rattle.std.specs.Prelude.{ℕ, zero, suc, ◌+◌, List, replicate, ℤ, pos}
use Rattle.box_eval.specs.declared.rule.Rule.{Rule}
use Rattle.box_eval.specs.declared.rule.Rule.TheVariants.{Always, AtMost, Both, Not}
use Rattle.box_eval.specs.declared.rule.Term.TheVariants.{Whole, Slot, Sum}
use Rattle.box_eval.specs.declared.bounds.Pair.{Pair}
use Rattle.box_eval.specs.declared.verdict.Verdict.{Verdict}
use Rattle.box_eval.specs.declared.verdict.Verdict.TheVariants.{True, False, Open}
use Rattle.box_eval.specs.Box.{pair}

-- a box of nine slots, each from 0 to a greatest value
abbrev pub box_to : ℤ → List Pair
box_to high = replicate 9 (pair (pos 0) high)

-- the slot is at most nine more than the next
abbrev pub near : ℕ → Rule
near slot = AtMost (Slot slot) (Sum (Slot (slot + 1)) (Whole (pos 9)))

-- each of the first so many slots is at most nine more than the next
abbrev pub all_near : ℕ → Rule
all_near zero = Always
all_near (suc slot) = Both (near slot) (all_near slot)

-- the rule of fifty nodes that is judged: not each of the first eight slots is at most nine more than the next
abbrev pub fifty : Rule
fifty = Not (all_near 8)

-- 1 for an open verdict
abbrev pub number_open : Verdict → ℕ
number_open True = 0
number_open False = 0
number_open Open = 1
