use Rattle.std.proofs.Common.{◌∙◌, Some, None, ap, map, refl}
use Rattle.object_works.specs.composition.SeenParts.{seen_modifier}
use Rattle.object_works.specs.composition.SeenScenes.{seen_scene}
use Rattle.dsl_tree.specs.Views.{part_tree}
use Rattle.expr_nodes.specs.Scope.{It}
use Rattle.expr_nodes.specs.SeenNames.{seen_scope}
use Rattle.object_works.specs.program_texts.SeenTexts.{types_in}
use Rattle.object_works.specs.scene_expansion.SeenWorks.{seen_call}
use Rattle.work_parts.proofs.ModifierLaws.{invocation_put}
use Rattle.work_parts.proofs.modifiers_in.push_invocation.Goals as goal

pub returns : goal.returns
returns c =
    invocation_put (seen_scene c.args.scene.now).bindings c.args.call.now.object c.args.call.now.path (types_in c.args.texts.now) c.types.result.now.table (seen_call c.args.call.now) (Some (It.Of c.args.of None)) (seen_scope c.call_scope-scope.result) (map part_tree c.as_slice-2.result.now)
    (map part_tree c.args.node.now.parts) (map seen_modifier c.args.modifiers.now.items) (map seen_modifier c.push_parts.new.modifiers.items) c.push_parts.result c.push_parts.ensures
    refl refl c.types.ensures (c.call_scope-scope.ensures (types_in c.args.texts.now) (c.table.ensures ∙ c.in_ok-labels.ensures)) (ap (map part_tree) c.as_slice-2.ensures)
