-- What the code finds in the file of a run. This is no part of the meaning.
use Rattle.std.specs.Prelude.{◌≡◌, ◌≤◌, ℕ, List, Some, codes, length}
use Rattle.outside_io.specs.declared.shelf.NamedBytes.{NamedBytes}
use Rattle.outside_io.specs.Files.{file_named}
use Rattle.run_texts.specs.composition.declared.run.Run.{Run}
use Rattle.run_texts.specs.declared.stop.RunStop.{RunStop}
use Rattle.text_load.specs.declared.loading.TextStop.{TextStop}
use Rattle.command_replies.specs.Reply.{Answer}
use Rattle.command_replies.specs.Replies.{failed_shelf, long_file, missing_file, text_refused}
use Rattle.command_replies.specs.Shelves.{AnswersOrFails}
use Rattle.run_answers.specs.declared.found.FoundRun.{FoundRun}
use Rattle.run_answers.specs.RunFiles.{IsNoRun, IsRun, OnRunFile, run_limit}

-- the run that a text is, or the reply to a text that is none
abbrev pub IsFoundIn : List ℕ → FoundRun → Type 0
IsFoundIn bytes (FoundRun.Run run) = IsRun bytes run
IsFoundIn bytes (FoundRun.Refused reply) = (what : List ℕ) × IsNoRun bytes what × (reply ≡ text_refused what)

-- the run in a file
pub record HoldsRun (texts : List NamedBytes) (file : List ℕ) (run : Run) : Type 0 where
  pub bytes : List ℕ
  pub there : file_named texts file ≡ Some bytes
  pub within : length bytes ≤ run_limit
  pub is : IsRun bytes run

-- the run in a file, and the shelf's count of faults stays; or the reply to a file that has none, or of a shelf that failed
abbrev pub IsFoundRun : List NamedBytes → List ℕ → ℕ → ℕ → FoundRun → Type 0
IsFoundRun texts file before after (FoundRun.Run run) = HoldsRun texts file run × (after ≡ before)
IsFoundRun texts file before after (FoundRun.Refused reply) = AnswersOrFails (OnRunFile (λ run reply. ⊥) texts file) file before after reply

-- the reply to why a text is no run; out of memory has none
abbrev pub IsReplyToRunStop : RunStop → Answer → Type 0
IsReplyToRunStop RunStop.BadJson reply = reply ≡ text_refused (codes "json")
IsReplyToRunStop (RunStop.BadShape pointer) reply = reply ≡ text_refused pointer
IsReplyToRunStop RunStop.Memory reply = ⊥

-- the reply to why a file has no text; out of memory has none
abbrev pub IsReplyToTextStop : List ℕ → TextStop → Answer → Type 0
IsReplyToTextStop file TextStop.Missing reply = reply ≡ missing_file file
IsReplyToTextStop file TextStop.Long reply = reply ≡ long_file file
IsReplyToTextStop file TextStop.Shelf reply = reply ≡ failed_shelf file
IsReplyToTextStop file TextStop.Memory reply = ⊥
