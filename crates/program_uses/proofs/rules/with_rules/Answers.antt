use Rattle.std.proofs.Common.{flat_map, map, refl}
use Rattle.osc_base.specs.FaultRows.{first_from}
use Rattle.dsl_tree.specs.Views.{rule_tree}
use Rattle.expr_nodes.specs.SeenNames.{seen_scope}
use Rattle.program_calls.specs.composition.Uses.{rule_rows}
use Rattle.program_uses.proofs.RowSteps.{each_more}
use Rattle.program_uses.proofs.rules.with_rules.Goals as goal

pub loop-rule-preserved : goal.loop-rule-preserved
loop-rule-preserved c =
    let rows = rule_rows c.args.types.now.table (seen_scope c.args.scope.now) in
    each_more rows rule_tree c.args.rules.now c.args.rules.now c.loop-rule.rule-index refl c.rule-item.result (first_from c.args.first (flat_map rows (map rule_tree c.args.rules.now)))
    c.loop-rule.fault c.in_ok-fault.fault c.loop-rule-test.true c.rule-item.is c.in_ok-fault.ensures c.loop-rule.invariant
