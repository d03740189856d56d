use Rattle.std.proofs.Common.{◌≡◌, drop, flat_map, map}
use Rattle.osc_base.specs.FaultRows.{first_from}
use Rattle.dsl_tree.specs.Views.{part_tree}
use Rattle.expr_nodes.specs.SeenNames.{seen_scope}
use Rattle.program_calls.specs.composition.Uses.{part_rows}
use Rattle.program_uses.specs.TableTypes.{of_table}
use Rattle.program_uses.proofs.calls.with_parts.Given as goal

abbrev pub invariant-loop-part : goal.invariant-loop-part
invariant-loop-part l =
    let rows = part_rows (of_table l.library l.types.table) (seen_scope l.scope) l.of in
    first_from l.fn.first (flat_map rows (map part_tree l.parts)) ≡ first_from l.fault (flat_map rows (map part_tree (drop l.part-index l.parts)))
