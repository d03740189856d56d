-- What is written of a run is read as that run.
use Rattle.std.specs.Prelude.{◌≡◌, ℕ, List, true, Some, option_map}
use Rattle.serde_json.specs.Read.{read}
use Rattle.run_check.specs.composition.declared.run.Run.{Run}
use Rattle.run_check.specs.RunText.{run_text}
use Rattle.run_texts.specs.RunShape.{Fits, run_from}
use Rattle.run_tests.specs.WrittenRuns.{is_written_run}

-- the text of each run whose paths have texts, and whose ticks have a length that the words may give, is read as that run
abbrev pub WrittenRunsAreReadBack : Type 0
WrittenRunsAreReadBack = (run : Run) → is_written_run run ≡ true → option_map run_from (read (run_text run)) ≡ Some (Fits run)

-- a run that is read from a text of either form is written in a text that is read as that run
abbrev pub MigrationsAreReadBack : Type 0
MigrationsAreReadBack =
    (bytes : List ℕ) (run : Run) → option_map run_from (read bytes) ≡ Some (Fits run) → option_map run_from (read (run_text run)) ≡ Some (Fits run)
