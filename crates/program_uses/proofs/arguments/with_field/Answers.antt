use Rattle.std.proofs.Common.{◌≡◌, ◌∙◌, ap, [], cond, is_some}
use Rattle.osc_base.specs.declared.fault.FaultCode.{FaultCode}
use Rattle.osc_base.specs.FaultRows.{first_from, first_of, row, row_fault}
use Rattle.dsl_tree.specs.Views.{argument_tree}
use Rattle.expr_nodes.specs.SeenNames.{seen_scope}
use Rattle.program_calls.specs.composition.Calls.{Assigned}
use Rattle.program_uses.specs.ArgumentRows.{Continues, field_value_rows}
use Rattle.program_fields.specs.SeenFields.{seen_field}
use Rattle.program_uses.proofs.ArgumentSteps.{given}
use Rattle.program_uses.proofs.RowSteps.{if_ok}
use Rattle.program_uses.proofs.arguments.with_field.Goals as goal

pub returns : goal.returns
returns c =
    let table = c.args.types.now.table in
    let sc = seen_scope c.args.scope.now in
    let a = argument_tree c.args.argument.now in
    let field = seen_field c.args.field in
    if_ok (λ f. f ≡ first_from c.with_fault-own.result (cond (is_some field.tree.list) [] (field_value_rows table sc field.tree a.value)))
    (λ f. Continues table sc c.args.first c.args.met.now f c.meet.new.self a (Assigned.Given field))
    (λ f rest. given table sc c.args.first c.args.met.now a field c.meet.new.self c.as_str.result.now c.argument_place-place.result c.in_ok-is_met.is_met c.is_some-is_list.result
    c.with_fault-own.result f c.as_str.ensures c.argument_place-place.ensures c.is_some-is_list.ensures c.in_ok-is_met.ensures.before c.in_ok-is_met.ensures.more
    (c.with_fault-own.ensures ∙ ap (λ b. first_of c.args.first (row_fault (row c.argument_place-place.result FaultCode.BadArgument b))) c.is_refused-is_wrong.ensures) rest)
    c.with_unlisted.result c.with_unlisted.ensures
