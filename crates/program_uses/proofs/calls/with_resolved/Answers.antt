use Rattle.std.proofs.Common.{◌≡◌, ◌∙◌, [], ap, map, slice_index_or}
use Rattle.osc_base.specs.FaultRows.{first_from}
use Rattle.dsl_tree.specs.Views.{argument_tree}
use Rattle.expr_nodes.specs.type_heads.Members.{fields_among}
use Rattle.expr_nodes.specs.SeenNames.{seen_scope}
use Rattle.program_uses.specs.ArgumentRows.{arguments_in}
use Rattle.program_fields.specs.Tables.{fields_in, lists_in}
use Rattle.program_uses.proofs.RowSteps.{if_ok}
use Rattle.program_uses.proofs.calls.with_resolved.Goals as goal

pub returns : goal.returns
returns c =
    let table = c.args.types.now.table in
    let sc = seen_scope c.args.scope.now in
    let args = map argument_tree c.args.arguments.now in
    if_ok (λ f. f ≡ first_from c.args.first (arguments_in table sc (fields_in c.of-fields.result) [] 0 args))
    (λ f. f ≡ first_from c.args.first (arguments_in table sc (fields_among (slice_index_or (lists_in c.args.texts.now.fields) c.args.of [])) [] 0 args))
    (λ f is. is ∙ ap (λ fs. first_from c.args.first (arguments_in table sc fs [] 0 args)) c.of-fields.ensures)
    c.with_arguments.result c.with_arguments.ensures
