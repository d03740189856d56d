use Rattle.std.proofs.Common.{◌∙◌, ◌++◌, ap, map, option_map}
use Rattle.program_texts.specs.composition.SeenParts.{seen_occurrence}
use Rattle.program_texts.specs.composition.SeenScenes.{seen_scene}
use Rattle.program_texts.specs.composition.Givens.{guards_under}
use Rattle.dsl_tree.specs.Views.{field_tree}
use Rattle.expr_nodes.specs.SeenNames.{seen_it, seen_scope}
use Rattle.program_texts.specs.SeenTexts.{types_in}
use Rattle.program_texts.specs.type_members.Listed.{seen_listed}
use Rattle.program_texts.specs.type_members.Shared.{under_inside}
use Rattle.text_constraints.proofs.ListSteps.{on_ok}
use Rattle.text_constraints.proofs.ScopeSteps.{names_are}
use Rattle.text_constraints.proofs.members.push_field.Goals as goal

pub returns : goal.returns
returns c =
    let ts = types_in c.args.texts.now in
    let bindings = (seen_scene c.args.standing.now.scene.now).bindings in
    let object = c.args.standing.now.object.now in
    let t = c.args.standing.now.of in
    let m = under_inside c.args.inside (seen_listed c.args.listed.now) in
    let old = map seen_occurrence c.args.into.now.items in
    let before = seen_scope c.args.scope.now in
    on_ok _ _ (λ told is. told c.in_ok-it.ensures ∙ ap (λ os. old ++ os)
    (names_are ts bindings object t m before (record before { it = option_map seen_it c.in_ok-it.it }) c.as_slice.result.now (field_tree c.args.decl.now) is
    (ap (λ x. record before { it = x }) c.in_ok-it.ensures) (c.as_slice.ensures ∙ c.in_ok-under.ensures ∙ ap (guards_under ts object t) c.under_inside.ensures)))
    c.push_names.result c.push_names.ensures
