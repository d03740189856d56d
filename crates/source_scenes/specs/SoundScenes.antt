-- What is known of the scene of each scenario that isn't refused: what a check of runs, a flat form and a search ask of it.
use Rattle.loaded_programs.specs.composition.Scenes.{Scene}
use Rattle.loaded_programs.specs.field_flatten.Exactness.{IsExpanded, IsLimited}
use Rattle.loaded_programs.specs.run_values.Frames.{IsCheckable}

pub record IsSoundScene (scene : Scene) : Type 0 where
  pub checkable : IsCheckable scene
  pub expanded : IsExpanded scene
  pub limited : IsLimited scene
