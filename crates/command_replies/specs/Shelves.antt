-- An answer of a command that reads a text from a shelf, or the reply of a shelf that failed.
use Rattle.std.specs.Prelude.{◌≡◌, ◌⊎◌, ℕ, List}
use Rattle.record_text.specs.outside_io.Counts.{Rises}
use Rattle.command_replies.specs.Reply.{Answer}
use Rattle.command_replies.specs.Replies.{failed_shelf}

-- a count stays, or rises by one
abbrev pub CountsOnce : ℕ → ℕ → Type 0
CountsOnce before after = (after ≡ before) ⊎ Rises before after

-- a right answer, and the shelf's count of faults stays; or the shelf failed at the text of this name
abbrev pub AnswersOrFails : (Answer → Type 0) → List ℕ → ℕ → ℕ → Answer → Type 0
AnswersOrFails Answers name before after reply = (Answers reply × (after ≡ before)) ⊎ (Rises before after × (reply ≡ failed_shelf name))
