use Rattle.std.proofs.Common.{◌≡◌, ◌∙◌, [], ap, map, slice_index_or, sym}
use Rattle.osc_base.specs.FaultRows.{first_from}
use Rattle.dsl_tree.specs.Views.{argument_tree}
use Rattle.expr_nodes.specs.type_heads.Members.{fields_among}
use Rattle.expr_nodes.specs.type_heads.Types.{Types}
use Rattle.program_fields.specs.Tables.{lists_in}
use Rattle.expr_nodes.specs.SeenNames.{seen_scope}
use Rattle.program_calls.specs.composition.Uses.{call_rows}
use Rattle.program_uses.specs.ArgumentRows.{arguments_in}
use Rattle.program_uses.specs.SeenTexts.{Tells}
use Rattle.program_uses.proofs.PhaseSteps.{given_law}
use Rattle.program_uses.proofs.RowSteps.{if_ok}
use Rattle.program_uses.proofs.calls.with_call.Goals as goal

pub returns-in-Some : goal.returns-in-Some
returns-in-Some c =
    let table = c.args.types.now.table in
    let sc = seen_scope c.args.scope.now in
    let args = map argument_tree c.args.arguments.now in
    let fs = fields_among (slice_index_or (lists_in c.args.texts.now.fields) c.in-Some.of []) in
    if_ok (λ f. f ≡ first_from c.args.first (arguments_in table sc fs [] 0 args))
    (λ f. (ts : Types) → Tells ts c.args.types.now c.args.texts.now → f ≡ first_from c.args.first (call_rows ts sc c.args.of.now args))
    (λ f is ts told. is ∙ given_law ts table sc c.args.first c.in-Some.of fs args told.table (ap (λ ms. fields_among (slice_index_or ms c.in-Some.of [])) told.texts.members_told)
    ∙ ap (λ o. first_from c.args.first (call_rows ts sc o args)) (sym c.in-Some.is))
    c.with_resolved.result c.with_resolved.ensures
