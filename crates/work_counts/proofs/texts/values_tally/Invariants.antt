use Rattle.std.proofs.Common.{◌≡◌, take, map}
use Rattle.dsl_tree.specs.Views.{expr_tree}
use Rattle.work_counts.specs.Amounts.{kept, sum_of}
use Rattle.work_counts.specs.TextAmounts.{value_amount}
use Rattle.work_counts.proofs.texts.values_tally.Given as goal

abbrev pub invariant-loop-value : goal.invariant-loop-value
invariant-loop-value l = l.all ≡ kept (sum_of value_amount (map expr_tree (take l.value-index l.values)))
