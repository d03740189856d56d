-- The text of each run that a search reaches can be read back.
use Rattle.std.specs.Prelude.{◌≡◌, ℕ, List, true, false, IsUtf8}
use Rattle.source_scenes.specs.name_scope.FileNumbers.{AddedFile}
use Rattle.source_scenes.specs.named_scenario.Naming.{types_in}
use Rattle.run_tests.specs.composition.declared.run.Run.{Run}
use Rattle.run_tests.specs.composition.declared.setting.Setting.{Setting}
use Rattle.run_tests.specs.composition.Expanded.{scene}
use Rattle.run_tests.specs.composition.SceneFaults.{is_too_large}
use Rattle.run_tests.specs.run_check.RunText.{run_text}
use Rattle.run_tests.specs.WrittenRuns.{is_written_run}
use Rattle.source_scenes.specs.FoundScenes.{IsKnown}
use Rattle.search_answers.specs.scene_search.Findings.{IsReachedRun}

-- a run whose text is UTF-8, and each of whose paths has a text
pub record CanBeRead (run : Run) : Type 0 where
  pub utf8 : IsUtf8 (run_text run)
  pub written : is_written_run run ≡ true

-- of each scenario in a loaded program without faults that isn't too large
abbrev pub ReachedRunsCanBeRead : Type 0
ReachedRunsCanBeRead =
    (program : List AddedFile) (t : ℕ) (setting : Setting) → IsKnown program t setting → is_too_large (types_in program) t setting ≡ false
    → (seed cuts : ℕ) (run : Run) → IsReachedRun (scene (types_in program) t setting) seed cuts run → CanBeRead run
