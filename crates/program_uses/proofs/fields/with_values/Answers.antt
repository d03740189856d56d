use Rattle.std.proofs.Common.{map, refl}
use Rattle.osc_base.specs.FaultRows.{first_from}
use Rattle.dsl_tree.specs.Views.{expr_tree}
use Rattle.expr_nodes.specs.Fits.{initial_fit_rows}
use Rattle.expr_nodes.specs.Seen.{seen_kind, seen_size}
use Rattle.expr_nodes.specs.SeenNames.{seen_scope}
use Rattle.expr_nodes.specs.Typing.{first, typed}
use Rattle.program_calls.specs.composition.Uses.{values_rows}
use Rattle.program_uses.proofs.RowSteps.{each_more}
use Rattle.program_uses.proofs.fields.with_values.Goals as goal

pub loop-value-preserved : goal.loop-value-preserved
loop-value-preserved c =
    let table = c.args.types.now.table in
    let sc = seen_scope c.args.scope.now in
    let k = seen_kind c.args.held.now.kind in
    let s = seen_size c.args.held.now.size in
    each_more (λ e. initial_fit_rows k s (first e) (typed table sc e)) expr_tree c.args.values.now c.args.values.now c.loop-value.value-index refl c.value-item.result
    (first_from c.args.first (values_rows table sc (map expr_tree c.args.values.now) k s))
    c.loop-value.fault c.in_ok-fault.fault c.loop-value-test.true c.value-item.is c.in_ok-fault.ensures c.loop-value.invariant
