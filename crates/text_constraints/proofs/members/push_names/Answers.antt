use Rattle.std.proofs.Common.{◌++◌, flat_map, map}
use Rattle.program_texts.specs.composition.SeenParts.{seen_occurrence}
use Rattle.program_texts.specs.composition.SeenScenes.{seen_scene}
use Rattle.dsl_tree.specs.declared.parts.Ident.{Ident}
use Rattle.dsl_tree.specs.Views.{field_tree}
use Rattle.expr_nodes.specs.SeenNames.{seen_scope}
use Rattle.program_texts.specs.SeenTexts.{types_in}
use Rattle.text_constraints.specs.OwnTexts.{name_kept}
use Rattle.text_constraints.proofs.ListSteps.{plain_more}
use Rattle.text_constraints.proofs.members.push_names.Goals as goal

pub loop-name-preserved : goal.loop-name-preserved
loop-name-preserved c = λ it.
    let give = λ (i : Ident). name_kept (types_in c.args.texts.now) (seen_scene c.args.standing.now.scene.now).bindings c.args.standing.now.object.now (seen_scope c.args.scope.now) c.args.under.now i (field_tree c.args.decl.now) in
    plain_more give c.as_slice-name-items.result.now c.loop-name.name-index c.name-item.result (map seen_occurrence c.loop-name.into.items) (map seen_occurrence c.push_name.new.into.items)
    (map seen_occurrence c.args.into.now.items ++ flat_map give c.args.decl.now.names) c.loop-name-test.true c.name-item.is (c.in_ok-push_name.ensures it) (c.loop-name.invariant it)
