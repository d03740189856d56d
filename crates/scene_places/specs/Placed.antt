-- Where the paths of a text lead in a scene.
use Rattle.std.specs.Prelude.{List}
use Rattle.osc_base.specs.declared.path.Path.{Path}
use Rattle.scene_texts.specs.composition.Homes.{home}
use Rattle.scene_texts.specs.composition.Scenes.{Binding}
use Rattle.scene_texts.specs.composition.SeenScenes.{seen_scene}
use Rattle.scene_texts.specs.Moving.{path_under}
use Rattle.scene_places.specs.declared.places.Places.{Places}

-- the home of a path of a text, given the bindings of the scene, the object in whose members the text stands, and what `it` is
unfoldable pub home_under : List Binding → Path → Path → Path → Path
home_under bindings object it path = home bindings (path_under object it path)

-- the home of a path of the text
abbrev pub place_in : Places → Path → Path
place_in p = home_under (seen_scene p.scene.now).bindings p.object.now p.it.now
