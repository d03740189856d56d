-- What is replied about a source, and about the scene of the scenario that a word names in it.
use Rattle.std.specs.Prelude.{◌≡◌, ℕ, List, Some, None}
use Rattle.loaded_programs.specs.outside_io.declared.shelf.NamedBytes.{NamedBytes}
use Rattle.name_scope.specs.FileNumbers.{AddedFile}
use Rattle.loaded_programs.specs.composition.declared.setting.Setting.{Setting}
use Rattle.loaded_programs.specs.composition.Expanded.{scene}
use Rattle.loaded_programs.specs.composition.Scenes.{Scene}
use Rattle.program_scenes.specs.named_scenario.Naming.{types_in}
use Rattle.loaded_programs.specs.program_load.declared.stop.Refusal.{Refusal}
use Rattle.loaded_programs.specs.program_load.Loading.{IsLoaded, IsStopped}
use Rattle.command_replies.specs.Reply.{Answer}
use Rattle.command_replies.specs.Replies.{refused_source}
use Rattle.source_scenes.specs.Programs.{first_refusal, scenario_named}

-- What is replied about a program: why it is refused; else what a command answers about the scene of the scenario that the word names.
-- `main` is the name of the main file.
pub data OnProgram (program : List AddedFile) (setting : Setting) (main word : List ℕ) (Answers : List AddedFile → Scene → Answer → Type 0) (reply : Answer) : Type 0 where
  faulty : (refusal : Refusal) → first_refusal setting program word ≡ Some refusal → reply ≡ refused_source main refusal →
      OnProgram program setting main word Answers reply
  sound : (scenario : ℕ) → first_refusal setting program word ≡ None → scenario_named program word ≡ Some scenario →
      Answers program (scene (types_in program) scenario setting) reply → OnProgram program setting main word Answers reply

-- what is replied about a source: why no program is loaded; else what is replied about the program
pub data OnSource (sources : List NamedBytes) (setting : Setting) (main word : List ℕ) (Answers : List AddedFile → Scene → Answer → Type 0) (reply : Answer) : Type 0 where
  not_loaded : (refusal : Refusal) → IsStopped sources main refusal → reply ≡ refused_source main refusal →
      OnSource sources setting main word Answers reply
  loaded : (program : List AddedFile) → IsLoaded sources main program → OnProgram program setting main word Answers reply →
      OnSource sources setting main word Answers reply

-- a text that a command reads after the source has its turn: the program is loaded, and isn't refused
pub record IsTextTurn (sources : List NamedBytes) (setting : Setting) (main word : List ℕ) : Type 0 where
  pub program : List AddedFile
  pub whole : IsLoaded sources main program
  pub sound : first_refusal setting program word ≡ None
