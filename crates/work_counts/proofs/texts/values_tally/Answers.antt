use Rattle.dsl_tree.specs.Views.{expr_tree}
use Rattle.work_counts.specs.TextAmounts.{value_amount}
use Rattle.work_counts.proofs.Sums.{kept_more}
use Rattle.work_counts.proofs.texts.values_tally.Goals as goal

pub loop-value-init : goal.loop-value-init
loop-value-init c = c.none-all.ensures

pub loop-value-preserved : goal.loop-value-preserved
loop-value-preserved c =
    kept_more value_amount expr_tree c.args.values.now c.loop-value.value-index c.value-item.result c.loop-value.all c.value_tally.result c.with-all.result
    c.loop-value.invariant c.value_tally.ensures c.with-all.ensures c.loop-value-test.true c.value-item.is
