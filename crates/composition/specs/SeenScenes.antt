-- What the program's own scenes stand for in the definitions.
use Rattle.composition.specs.declared.scene.Scene.{Scene}
use Rattle.composition.specs.SeenParts.{scene_of}
use Rattle.composition.specs.Scenes as Scenes

-- a scene
abbrev pub seen_scene : Scene → Scenes.Scene
seen_scene s = scene_of s.spots s.bindings s.occurrences s.modifiers s.setting s.texts
