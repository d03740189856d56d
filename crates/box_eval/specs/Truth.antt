-- What a term is worth and whether a rule is true at a point.
use Rattle.std.specs.Prelude.{Bool, true, false, not, ◌&&◌, ◌||◌, List, ℤ, pos, ◌+ℤ◌, ◌-ℤ◌, ◌*ℤ◌, int_lt, int_le}
use Rattle.box_eval.specs.declared.rule.Rule.{Rule}
use Rattle.box_eval.specs.declared.rule.Term.{Term}
use Rattle.box_eval.specs.declared.rule.Rule.TheOpen.{Rule-F, Term-F, Always, Below, AtMost, Equal, Differ, Both, Either, Not, Whole, Slot, Sum, Less, Times, Truth}
use Rattle.box_eval.specs.declared.rule.Rule.TheFolds.{fold-Rule, fold-Term}
use Rattle.box_eval.specs.Box.{value_of}

-- one number
abbrev pub is_same : ℤ → ℤ → Bool
is_same a b = int_le a b && int_le b a

-- a truth as a number
abbrev pub as_number : Bool → ℤ
as_number true = pos 1
as_number false = pos 0

-- a term's value, from those of its parts
abbrev pub term_value : List ℤ → Term-F Bool ℤ → ℤ
term_value point (Whole n) = n
term_value point (Slot slot) = value_of point slot
term_value point (Sum a b) = a +ℤ b
term_value point (Less a b) = a -ℤ b
term_value point (Times a b) = a *ℤ b
term_value point (Truth truth) = as_number truth

-- a rule's truth, from the truths and values of its parts
abbrev pub rule_truth : Rule-F Bool ℤ → Bool
rule_truth Always = true
rule_truth (Below a b) = int_lt a b
rule_truth (AtMost a b) = int_le a b
rule_truth (Equal a b) = is_same a b
rule_truth (Differ a b) = not (is_same a b)
rule_truth (Both a b) = a && b
rule_truth (Either a b) = a || b
rule_truth (Not a) = not a

-- whether a rule is true at a point
abbrev pub true_at : List ℤ → Rule → Bool
true_at point = fold-Rule Bool ℤ rule_truth (term_value point)

-- the value of a term at a point
abbrev pub value_at : List ℤ → Term → ℤ
value_at point = fold-Term Bool ℤ rule_truth (term_value point)
