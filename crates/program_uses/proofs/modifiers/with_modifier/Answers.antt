use Rattle.std.proofs.Common.{◌≡◌, ◌∙◌, [], ap, flat_map, map, option_map}
use Rattle.std.specs.Option.{option_map_or}
use Rattle.osc_base.specs.FaultRows.{first_from}
use Rattle.dsl_tree.specs.Views.{argument_tree, modifier_tree}
use Rattle.expr_nodes.specs.SeenNames.{seen_scope}
use Rattle.expr_nodes.specs.Typing.{expr_rows}
use Rattle.program_calls.specs.composition.ModifierLines.{modifier_form}
use Rattle.program_calls.specs.composition.Uses.{compared_exprs, form_rows, modifier_rows}
use Rattle.program_calls.specs.SeenModifiers.{seen_form}
use Rattle.program_uses.specs.ModifierRows.{compared_rows, modifier_name_rows}
use Rattle.program_uses.specs.TableTypes.{of_table}
use Rattle.program_uses.proofs.ModifierSteps.{compared_law}
use Rattle.program_uses.proofs.RowSteps.{if_ok, three}
use Rattle.program_uses.proofs.modifiers.with_modifier.Goals as goal

pub returns : goal.returns
returns c =
    let table = c.args.types.now.table in
    let sc = seen_scope c.args.scope.now in
    let ts = of_table c.args.library table in
    let m = modifier_tree c.args.modifier.now in
    if_ok (λ f. f ≡ first_from c.in_ok-own.own (option_map_or (form_rows ts sc) (option_map seen_form c.modifier_form.result) []))
    (λ f. f ≡ first_from c.args.first (modifier_rows ts sc c.args.of.now m))
    (λ f is. three (modifier_name_rows c.args.library table c.args.of.now m) (flat_map (expr_rows table sc) (flat_map compared_exprs m.arguments)) (option_map_or (form_rows ts sc) (modifier_form m) [])
    c.args.first c.with_name-named.result c.in_ok-own.own f c.with_name-named.ensures
    (c.in_ok-own.ensures ∙ ap (λ xs. first_from c.with_name-named.result (flat_map (compared_rows table sc) (map argument_tree xs))) c.as_slice-arguments.ensures
    ∙ ap (first_from c.with_name-named.result) (compared_law table sc m.arguments))
    (is ∙ ap (λ o. first_from c.in_ok-own.own (option_map_or (form_rows ts sc) o [])) c.modifier_form.ensures))
    c.with_form.result c.with_form.ensures
