use Rattle.std.proofs.Common.{◌∙◌, ◌++◌, ap, ap₂, map, option_map, sym}
use Rattle.osc_base.specs.Paths.{then_name}
use Rattle.program_texts.specs.composition.SeenParts.{seen_occurrence}
use Rattle.program_texts.specs.composition.SeenScenes.{seen_scene}
use Rattle.dsl_tree.specs.Views.{field_tree}
use Rattle.expr_nodes.specs.Scope.{It}
use Rattle.expr_nodes.specs.SeenNames.{seen_scope}
use Rattle.program_texts.specs.SeenTexts.{types_in}
use Rattle.expr_nodes.specs.type_heads.Members.{list_length}
use Rattle.text_constraints.specs.OwnTexts.{texts_kept}
use Rattle.text_constraints.proofs.ListSteps.{on_ok}
use Rattle.text_constraints.proofs.members.push_name.Goals as goal

pub returns : goal.returns
returns c =
    let ts = types_in c.args.texts.now in
    let bindings = (seen_scene c.args.standing.now.scene.now).bindings in
    let object = c.args.standing.now.object.now in
    let f = field_tree c.args.decl.now in
    let old = map seen_occurrence c.args.into.now.items in
    on_ok _ _ (λ told it. told (it ∙ ap (option_map (λ t. It.Of t (list_length f))) (sym c.declared_type-of.ensures))
    ∙ ap₂ (λ p o. old ++ texts_kept ts (record { object = object; it = p; scope = seen_scope c.args.scope.now; bindings = bindings }) (record { holder = object; under = c.args.under.now }) o f)
    (c.in_ok-it.ensures ∙ ap (then_name object) c.as_str.ensures) c.declared_type-of.ensures)
    c.push_texts.result c.push_texts.ensures
