use Rattle.std.proofs.Common.{◌≡◌, drop, flat_map, map}
use Rattle.osc_base.specs.FaultRows.{first_from}
use Rattle.dsl_tree.specs.Views.{rule_tree}
use Rattle.expr_nodes.specs.SeenNames.{seen_scope}
use Rattle.program_calls.specs.composition.Uses.{rule_rows}
use Rattle.program_uses.proofs.rules.with_rules.Given as goal

abbrev pub invariant-loop-rule : goal.invariant-loop-rule
invariant-loop-rule l =
    first_from l.fn.first (flat_map (rule_rows l.types.table (seen_scope l.scope)) (map rule_tree l.rules))
    ≡ first_from l.fault (flat_map (rule_rows l.types.table (seen_scope l.scope)) (map rule_tree (drop l.rule-index l.rules)))
