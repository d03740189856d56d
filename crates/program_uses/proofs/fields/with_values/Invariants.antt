use Rattle.std.proofs.Common.{◌≡◌, drop, map}
use Rattle.osc_base.specs.FaultRows.{first_from}
use Rattle.dsl_tree.specs.Views.{expr_tree}
use Rattle.expr_nodes.specs.Seen.{seen_kind, seen_size}
use Rattle.expr_nodes.specs.SeenNames.{seen_scope}
use Rattle.program_calls.specs.composition.Uses.{values_rows}
use Rattle.program_uses.proofs.fields.with_values.Given as goal

abbrev pub invariant-loop-value : goal.invariant-loop-value
invariant-loop-value l =
    first_from l.fn.first (values_rows l.types.table (seen_scope l.scope) (map expr_tree l.values) (seen_kind l.held.kind) (seen_size l.held.size))
    ≡ first_from l.fault (values_rows l.types.table (seen_scope l.scope) (map expr_tree (drop l.value-index l.values)) (seen_kind l.held.kind) (seen_size l.held.size))
