use Rattle.std.proofs.Common.{◌≡◌, take, map}
use Rattle.dsl_tree.specs.Views.{rule_tree}
use Rattle.work_counts.specs.Amounts.{kept, sum_of}
use Rattle.work_counts.specs.TextAmounts.{rule_amount}
use Rattle.work_counts.proofs.texts.rules_tally.Given as goal

abbrev pub invariant-loop-rule : goal.invariant-loop-rule
invariant-loop-rule l = l.all ≡ kept (sum_of rule_amount (map rule_tree (take l.rule-index l.rules)))
