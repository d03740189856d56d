use Rattle.std.proofs.Common.{flat_map, map, refl}
use Rattle.osc_base.specs.FaultRows.{first_from}
use Rattle.dsl_tree.specs.Views.{part_tree}
use Rattle.expr_nodes.specs.SeenNames.{seen_scope}
use Rattle.program_calls.specs.composition.Uses.{part_rows}
use Rattle.program_uses.specs.TableTypes.{of_table}
use Rattle.program_uses.proofs.RowSteps.{each_more}
use Rattle.program_uses.proofs.calls.with_parts.Goals as goal

pub loop-part-preserved : goal.loop-part-preserved
loop-part-preserved c =
    let rows = part_rows (of_table c.args.library c.args.types.now.table) (seen_scope c.args.scope.now) c.args.of.now in
    each_more rows part_tree c.args.parts.now c.args.parts.now c.loop-part.part-index refl c.part-item.result (first_from c.args.first (flat_map rows (map part_tree c.args.parts.now)))
    c.loop-part.fault c.in_ok-fault.fault c.loop-part-test.true c.part-item.is c.in_ok-fault.ensures c.loop-part.invariant
