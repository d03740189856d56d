-- What any command replies to the file of a run.
use Rattle.std.specs.Prelude.{◌≡◌, ℕ, List, Ok, Err, codes}
use Rattle.outside_io.specs.declared.shelf.NamedBytes.{NamedBytes}
use Rattle.run_texts.specs.composition.declared.run.Run.{Run}
use Rattle.run_texts.specs.declared.stop.RunStop.{RunStop}
use Rattle.run_texts.specs.RunReading.{IsReading}
use Rattle.command_replies.specs.Reply.{Answer}
use Rattle.run_answers.specs.TextFiles.{OnFile}

-- the most bytes of the file of a run: 16 MiB
abbrev pub run_limit : ℕ
run_limit = 16777216

-- what is told of a text that is no run: `json` if it is no JSON; else the first place at which the JSON is no run
pub data IsNoRun (bytes what : List ℕ) : Type 0 where
  no_json : IsReading bytes (Err RunStop.BadJson) → what ≡ codes "json" → IsNoRun bytes what
  no_run : IsReading bytes (Err (RunStop.BadShape what)) → IsNoRun bytes what

-- the run that a text is
abbrev pub IsRun : List ℕ → Run → Type 0
IsRun bytes run = IsReading bytes (Ok run)

-- what is replied to the file of a run, if this is said of the run
abbrev pub OnRunFile : (Run → Answer → Type 0) → List NamedBytes → List ℕ → Answer → Type 0
OnRunFile Says texts file reply = OnFile run_limit IsNoRun IsRun Says texts file reply
