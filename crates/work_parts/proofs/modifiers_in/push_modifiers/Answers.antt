use Rattle.std.proofs.Common.{◌≡◌, ◌++◌, OnOk, map, subst, sym}
use Rattle.object_works.specs.composition.SeenParts.{seen_modifier}
use Rattle.object_works.specs.composition.SeenScenes.{seen_scene}
use Rattle.scene_places.specs.expansion_laws.WorkNodes.{node_of}
use Rattle.object_works.specs.program_texts.SeenTexts.{types_in}
use Rattle.object_works.specs.scene_expansion.SeenWorks.{seen_work}
use Rattle.object_works.specs.scene_expansion.Walks.{modifier_at}
use Rattle.work_parts.proofs.modifiers_in.push_modifiers.Goals as goal

pub returns-in-Invoke : goal.returns-in-Invoke
returns-in-Invoke c =
    subst
    (λ w. OnOk c.push_invocation.result (map seen_modifier c.push_invocation.new.modifiers.items ≡ map seen_modifier c.args.modifiers.now.items ++ map (modifier_at (seen_scene c.args.scene.now).bindings) (node_of (types_in c.args.texts.now) (seen_work w)).modifiers))
    (sym c.in-Invoke.is) c.push_invocation.ensures
