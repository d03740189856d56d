-- The scene of a scenario, or the fault of one that is too large.
use Rattle.std.proofs.Common.{◌≡◌, ◌∙◌, sym, ap, subst, ℕ, List, Option, Some, None, Bool, true, false, cond}
use Rattle.osc_base.specs.declared.fault.Place.{Place}
use Rattle.osc_base.specs.declared.fault.FaultCode.{FaultCode}
use Rattle.osc_base.specs.declared.fault.Fault.{Fault}
use Rattle.dsl_tree.specs.FileTree.{CompoundTree}
use Rattle.name_scope.specs.Declaring.{behaviour_name}
use Rattle.name_scope.specs.FileNumbers.{AddedFile}
use Rattle.program_scenes.specs.type_heads.Members.{body}
use Rattle.loaded_programs.specs.composition.declared.scene.Scene.{Scene}
use Rattle.loaded_programs.specs.composition.declared.setting.Setting.{Setting}
use Rattle.loaded_programs.specs.composition.Expanded.{scene}
use Rattle.loaded_programs.specs.composition.SceneFaults.{is_too_large}
use Rattle.loaded_programs.specs.composition.SeenScenes.{seen_scene}
use Rattle.program_scenes.specs.named_scenario.Declarations.{IsDeclaredBy}
use Rattle.program_scenes.specs.named_scenario.Naming.{types_in}
use Rattle.loaded_programs.specs.program_load.Loading.{name_at}
use Rattle.command_replies.specs.Reply.{Answer}
use Rattle.command_replies.specs.Replies.{fault_of}
use Rattle.source_scenes.specs.declared.found.FoundScene.{FoundScene}
use Rattle.source_scenes.specs.FoundScenes.{IsKnown, IsSceneOf}
use Rattle.source_scenes.specs.Programs.{too_large}
use Rattle.source_scenes.specs.SoundScenes.{IsSoundScene}
use Rattle.source_scenes.proofs.SoundNamed.{sound_scene}

abbrev too_many : Place → Fault
too_many place = record { place = place; code = FaultCode.TooMany }

module _ (program : List AddedFile) (setting : Setting) (t : ℕ) where
  abbrev fault_if : Bool → Place → Option Fault
  fault_if large place = cond large (Some (too_many place)) None

  fault_is : (large : Bool) → is_too_large (types_in program) t setting ≡ large → too_large setting (types_in program) t ≡ fault_if large (body (types_in program).bodies t).place
  fault_is large is = ap (λ l. fault_if l (body (types_in program).bodies t).place) is

  -- a scenario that isn't too large
  pub within : (found : Scene) → IsKnown program t setting → is_too_large (types_in program) t setting ≡ false → seen_scene found ≡ scene (types_in program) t setting →
      IsSceneOf program setting t (FoundScene.Scene found)
  within found known small same = (fault_is false small, same, subst IsSoundScene (sym same) (sound_scene program t setting known small))

  -- one that is
  pub past : (c : CompoundTree) (place : Place) (reply : Answer) → IsDeclaredBy (types_in program) t c → is_too_large (types_in program) t setting ≡ true →
      place ≡ (behaviour_name c.name.first c.name.second).place → reply ≡ fault_of (name_at program place.file) (too_many place) → IsSceneOf program setting t (FoundScene.Refused reply)
  past c place reply by large here replied = (too_many place, fault_is true large ∙ ap (fault_if true) (by.place ∙ sym here), replied)
