-- What the functions find. This is no part of the meaning.
use Rattle.std.specs.Prelude.{◌≡◌, ℕ, true, List, Option, Some, None, option_map}
use Rattle.osc_base.specs.declared.fault.Fault.{Fault}
use Rattle.loaded_programs.specs.outside_io.declared.shelf.NamedBytes.{NamedBytes}
use Rattle.name_scope.specs.FileNumbers.{AddedFile}
use Rattle.loaded_programs.specs.composition.declared.setting.Setting.{Setting}
use Rattle.loaded_programs.specs.composition.Expanded.{scene}
use Rattle.loaded_programs.specs.composition.Invariants.{is_setting}
use Rattle.loaded_programs.specs.composition.SeenScenes.{seen_scene}
use Rattle.program_scenes.specs.named_scenario.Naming.{fault_in, scenario_in, types_in}
use Rattle.loaded_programs.specs.program_load.declared.stop.LoadStop.{LoadStop}
use Rattle.loaded_programs.specs.program_load.Loading.{IsLoaded, name_at}
use Rattle.command_replies.specs.Reply.{Answer}
use Rattle.command_replies.specs.Replies.{failed_shelf, fault_of, refused_source}
use Rattle.source_scenes.specs.declared.found.FoundScene.{FoundScene}
use Rattle.source_scenes.specs.Programs.{first_refusal, scenario_named, too_large}
use Rattle.source_scenes.specs.SoundScenes.{IsSoundScene}

-- ---- Scenes

-- the reply to a program that is refused, whatever its main file's name
abbrev pub IsRefused : List AddedFile → Setting → List ℕ → Answer → Type 0
IsRefused program setting word reply = (main : List ℕ) → option_map (refused_source main) (first_refusal setting program word) ≡ Some reply

-- the scene of the scenario that the word names, and what is known of it; or the reply to a program that is refused
abbrev pub IsFoundScene : List AddedFile → Setting → List ℕ → FoundScene → Type 0
IsFoundScene program setting word (FoundScene.Scene found) =
    (t : ℕ) × (first_refusal setting program word ≡ None) × (scenario_named program word ≡ Some t)
    × (seen_scene found ≡ scene (types_in program) t setting) × IsSoundScene (seen_scene found)
IsFoundScene program setting word (FoundScene.Refused reply) = IsRefused program setting word reply

-- the scene of a scenario, and what is known of it; or the reply to a scenario that is too large
abbrev pub IsSceneOf : List AddedFile → Setting → ℕ → FoundScene → Type 0
IsSceneOf program setting t (FoundScene.Scene found) =
    (too_large setting (types_in program) t ≡ None) × (seen_scene found ≡ scene (types_in program) t setting) × IsSoundScene (seen_scene found)
IsSceneOf program setting t (FoundScene.Refused reply) =
    (fault : Fault) × (too_large setting (types_in program) t ≡ Some fault) × (reply ≡ fault_of (name_at program fault.place.file) fault)

-- some files are loaded as this program
pub record IsSomeLoad (program : List AddedFile) : Type 0 where
  pub files : List NamedBytes
  pub main : List ℕ
  pub whole : IsLoaded files main program

-- the scenario of some name in a loaded program whose declarations have no fault, and a setting within its limits
pub record IsKnown (program : List AddedFile) (scenario : ℕ) (setting : Setting) : Type 0 where
  pub loaded : IsSomeLoad program
  pub sound : fault_in program ≡ None
  pub owner : Option (List ℕ)
  pub name : List ℕ
  pub named : scenario_in program owner name ≡ Some scenario
  pub ranges : is_setting setting ≡ true

-- ---- Replies

-- the reply to why no program was loaded; out of memory has none
abbrev pub IsReplyToStop : List ℕ → LoadStop → Answer → Type 0
IsReplyToStop main (LoadStop.At refusal) reply = reply ≡ refused_source main refusal
IsReplyToStop main (LoadStop.Shelf name) reply = reply ≡ failed_shelf name
IsReplyToStop main LoadStop.Memory reply = ⊥
