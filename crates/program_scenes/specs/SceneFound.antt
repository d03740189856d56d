-- What is found for a scenario of a program: its scene, or none.
use Rattle.std.specs.Prelude.{◌≡◌, ℕ, true, false, Option, Some, None}
use Rattle.named_scenario.specs.type_heads.Types.{Types}
use Rattle.named_scenario.specs.composition.declared.scene.Scene.{Scene}
use Rattle.named_scenario.specs.composition.declared.setting.Setting.{Setting}
use Rattle.named_scenario.specs.composition.Expanded.{scene}
use Rattle.named_scenario.specs.composition.SceneFaults.{is_too_large}
use Rattle.named_scenario.specs.composition.SeenScenes.{seen_scene}

-- none exactly if the scenario is too large; else the scene of the definition
abbrev pub IsSceneFound : Types → ℕ → Setting → Option Scene → Type 0
IsSceneFound ts t setting None = is_too_large ts t setting ≡ true
IsSceneFound ts t setting (Some s) = (is_too_large ts t setting ≡ false) × (seen_scene s ≡ scene ts t setting)
