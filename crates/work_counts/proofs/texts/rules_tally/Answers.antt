use Rattle.dsl_tree.specs.Views.{rule_tree}
use Rattle.work_counts.specs.TextAmounts.{rule_amount}
use Rattle.work_counts.proofs.Sums.{kept_more}
use Rattle.work_counts.proofs.texts.rules_tally.Goals as goal

pub loop-rule-init : goal.loop-rule-init
loop-rule-init c = c.none-all.ensures

pub loop-rule-preserved : goal.loop-rule-preserved
loop-rule-preserved c =
    kept_more rule_amount rule_tree c.args.rules.now c.loop-rule.rule-index c.rule-item.result c.loop-rule.all c.rule_tally.result c.with-all.result
    c.loop-rule.invariant c.rule_tally.ensures c.with-all.ensures c.loop-rule-test.true c.rule-item.is
