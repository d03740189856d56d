-- What the numbers of a run stand for in the definitions.
use Rattle.field_flatten.specs.composition.declared.run.Run.{Run}
use Rattle.field_flatten.specs.composition.Scenes.{Scene}
use Rattle.field_flatten.specs.composition.SeenScenes.{seen_scene}
use Rattle.run_clauses.specs.run_entries.SeenRuns.{seen_run}
use Rattle.run_values.specs.declared.numbers.Numbers.{Numbers}

-- the scene
abbrev pub scene_in : Numbers → Scene
scene_in n = seen_scene n.scene.now

-- the run
abbrev pub run_in : Numbers → Run
run_in n = seen_run n.run.now
