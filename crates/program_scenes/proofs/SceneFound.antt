-- What is found for a scenario.
use Rattle.std.proofs.Common.{◌≡◌, ℕ, true, false, Option, Some, None, subst}
use Rattle.std.specs.Prelude.{MatchOption}
use Rattle.named_scenario.specs.type_heads.Types.{Types}
use Rattle.named_scenario.specs.composition.declared.scene.Scene.{Scene}
use Rattle.named_scenario.specs.composition.declared.setting.Setting.{Setting}
use Rattle.named_scenario.specs.composition.Expanded.{scene}
use Rattle.named_scenario.specs.composition.SceneFaults.{is_too_large}
use Rattle.named_scenario.specs.composition.SeenScenes.{seen_scene}
use Rattle.program_scenes.specs.SceneFound.{IsSceneFound}

-- by the types of a layout
pub laid_out : (ts laid : Types) (t : ℕ) (setting : Setting) (found : Option Scene) → laid ≡ ts
    → MatchOption found (is_too_large laid t setting ≡ true) (λ s. (is_too_large laid t setting ≡ false) × (seen_scene s ≡ scene laid t setting)) → IsSceneFound ts t setting found
laid_out ts laid t setting None same is = subst (λ (x : Types). is_too_large x t setting ≡ true) same is
laid_out ts laid t setting (Some s) same is = subst (λ (x : Types). (is_too_large x t setting ≡ false) × (seen_scene s ≡ scene x t setting)) same is

-- by equal types
pub of_program : (ts other : Types) (t : ℕ) (setting : Setting) (found : Option Scene) → other ≡ ts → IsSceneFound other t setting found → IsSceneFound ts t setting found
of_program ts other t setting found same is = subst (λ (x : Types). IsSceneFound x t setting found) same is
