use Rattle.std.proofs.Common.{◌≡◌, ℕ, ◌<◌, slice_get, Some}
use Rattle.box_eval.specs.declared.rule.Rule.{Rule}
use Rattle.search_tests.specs.Small.{IsSmallRule}
use Rattle.search_tests.proofs.flatness.are_small_rules.Given as goal

abbrev pub invariant-loop-rule : goal.invariant-loop-rule
invariant-loop-rule l = (k : ℕ) (rule : Rule) → k < l.rule-index → slice_get l.rules k ≡ Some rule → IsSmallRule l.slots rule
