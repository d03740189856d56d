-- What the slots of a scene stand for.
use Rattle.flat_shapes.specs.composition.Scenes.{Scene}
use Rattle.flat_shapes.specs.composition.SeenScenes.{seen_scene}
use Rattle.flat_shapes.specs.field_flatten.Shapes.{Layout}
use Rattle.flat_shapes.specs.field_flatten.Rules.{layout}
use Rattle.scene_slots.specs.declared.slots.SceneSlots.{SceneSlots}

-- the scene
abbrev pub scene_of : SceneSlots → Scene
scene_of s = seen_scene s.scene.now

-- the layout of the scene
abbrev pub layout_of : SceneSlots → Layout
layout_of s = layout (scene_of s)
