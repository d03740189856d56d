use Rattle.std.proofs.Common.{◌≡◌, ◌∙◌, None, Some, ap, ap₂, flat_map, map}
use Rattle.osc_base.specs.FaultRows.{first_from}
use Rattle.dsl_tree.specs.declared.phases.Phase.{Phase}
use Rattle.dsl_tree.specs.Views.{argument_tree, part_tree, phase_tree}
use Rattle.expr_nodes.specs.type_heads.Types.{Types}
use Rattle.expr_nodes.specs.SeenNames.{seen_it, seen_scope}
use Rattle.program_calls.specs.composition.Calls.{callee}
use Rattle.program_calls.specs.composition.Uses.{call_rows, callee_rows, part_rows}
use Rattle.program_uses.specs.PhaseRows.{phase_in}
use Rattle.program_uses.specs.SeenTexts.{Tells}
use Rattle.program_uses.specs.TableTypes.{of_table}
use Rattle.program_uses.proofs.PhaseSteps.{invocation_law}
use Rattle.program_uses.proofs.RowSteps.{if_ok}
use Rattle.program_uses.proofs.phases.with_invocation.Goals as goal

pub returns : goal.returns
returns c =
    let table = c.args.types.now.table in
    let library = c.args.texts.now.library in
    let sc = seen_scope c.args.scope.now in
    let inv = c.args.invocation.now in
    let of = c.in_ok-of.of in
    if_ok (λ f. f ≡ first_from c.in_ok-given.given (flat_map (part_rows (of_table library table) (record sc { it = Some (seen_it c.it_made.result) }) of) (map part_tree c.as_slice-parts.result.now)))
    (λ f. (ts : Types) → Tells ts c.args.types.now c.args.texts.now → f ≡ first_from c.args.first (phase_in ts sc (phase_tree (Phase.Invoke inv))))
    (λ f is ts told. invocation_law ts table library sc inv of c.args.first c.in_ok-called.called c.in_ok-given.given f told.table told.texts.library c.in_ok-of.ensures
    (c.in_ok-called.ensures ∙ ap (λ ns. first_from c.args.first (callee_rows (of_table None table) sc (callee inv.head ns))) c.as_slice-names.ensures)
    (c.in_ok-given.ensures ts told ∙ ap (λ xs. first_from c.in_ok-called.called (call_rows ts sc of (map argument_tree xs))) c.as_slice-arguments.ensures)
    (is ∙ ap₂ (λ i ps. first_from c.in_ok-given.given (flat_map (part_rows (of_table library table) (record sc { it = Some i }) of) (map part_tree ps))) c.it_made.ensures c.as_slice-parts.ensures))
    c.with_parts.result c.with_parts.ensures
