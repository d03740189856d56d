use Rattle.std.proofs.Common.{◌≡◌, ◌++◌, drop, map}
use Rattle.object_works.specs.composition.SeenParts.{seen_modifier}
use Rattle.object_works.specs.composition.SeenScenes.{seen_scene}
use Rattle.dsl_tree.specs.Views.{part_tree}
use Rattle.expr_nodes.specs.SeenNames.{seen_scope}
use Rattle.object_works.specs.scene_expansion.SeenWorks.{seen_call}
use Rattle.scene_places.specs.Placed.{place_in}
use Rattle.work_parts.specs.Modifiers.{actor_home, parts_there}
use Rattle.work_parts.proofs.modifiers_in.push_parts.Given as goal

abbrev pub invariant-loop-part : goal.invariant-loop-part
invariant-loop-part l =
    map seen_modifier l.modifiers.items ++ parts_there (place_in l.within.places) (actor_home (seen_scene l.within.places.scene.now).bindings (seen_call l.within.call.now)) l.within.types.now.table (seen_scope l.within.scope.now) (seen_call l.within.call.now) (map part_tree (drop l.part-index l.parts))
    ≡ map seen_modifier l.fn.modifiers.items ++ parts_there (place_in l.within.places) (actor_home (seen_scene l.within.places.scene.now).bindings (seen_call l.within.call.now)) l.within.types.now.table (seen_scope l.within.scope.now) (seen_call l.within.call.now) (map part_tree l.parts)
