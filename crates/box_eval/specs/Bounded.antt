-- A bound on the numbers within a rule, if the magnitudes of all ends are bounded.
use Rattle.std.specs.Prelude.{ℕ, ◌+◌, ◌*◌, max, unsigned_abs}
use Rattle.box_eval.specs.declared.rule.Rule.{Rule}
use Rattle.box_eval.specs.declared.rule.Term.{Term}
use Rattle.box_eval.specs.declared.rule.Rule.TheOpen.{Rule-F, Term-F, Always, Below, AtMost, Equal, Differ, Both, Either, Not, Whole, Slot, Sum, Less, Times, Truth}
use Rattle.box_eval.specs.declared.rule.Rule.TheFolds.{fold-Rule, fold-Term}
use Rattle.box_eval.specs.Reach.{greatest_in_rule}

-- a term's bound, from those of its parts; it is at least 1, so that no part of a product has a greater one than the whole
abbrev pub bound_in_term : ℕ → Term-F ℕ ℕ → ℕ
bound_in_term most (Whole n) = max 1 (unsigned_abs n)
bound_in_term most (Slot slot) = max 1 most
bound_in_term most (Sum a b) = a + b
bound_in_term most (Less a b) = a + b
bound_in_term most (Times a b) = a * b
bound_in_term most (Truth rule) = max 1 rule

-- the greatest bound of the terms within a rule, if no end is greater than `most` in magnitude
abbrev pub rule_bound : ℕ → Rule → ℕ
rule_bound most = fold-Rule ℕ ℕ greatest_in_rule (bound_in_term most)

-- a term's bound
abbrev pub term_bound : ℕ → Term → ℕ
term_bound most = fold-Term ℕ ℕ greatest_in_rule (bound_in_term most)
