use Rattle.std.proofs.Common.{[], ◌+◌, ap, drop, map}
use Rattle.osc_base.specs.FaultRows.{first_from}
use Rattle.dsl_tree.specs.Views.{argument_tree}
use Rattle.expr_nodes.specs.SeenNames.{seen_scope}
use Rattle.program_calls.specs.composition.Uses.{composition_rows}
use Rattle.program_uses.proofs.CompositionSteps.{next_composed}
use Rattle.program_uses.proofs.RowSteps.{left_is}
use Rattle.program_uses.proofs.compositions.with_composition.Goals as goal

pub loop-argument-preserved : goal.loop-argument-preserved
loop-argument-preserved c =
    let table = c.args.types.now.table in
    let sc = seen_scope c.args.scope.now in
    let n = c.loop-argument.argument-index in
    next_composed table sc c.args.kind (first_from c.args.first (composition_rows table sc c.args.kind [] (map argument_tree c.args.arguments.now))) c.loop-argument.met c.with_argument.new.met
    c.loop-argument.fault c.in_ok-fault.fault (map argument_tree (drop n c.args.arguments.now)) (map argument_tree (drop (n + 1) c.args.arguments.now)) (argument_tree c.argument-item.result)
    (ap (map argument_tree) (left_is c.args.arguments.now n c.argument-item.result c.loop-argument-test.true c.argument-item.is))
    c.in_ok-fault.ensures c.loop-argument.invariant
