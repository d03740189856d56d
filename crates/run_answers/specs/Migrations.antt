-- What `migrate` answers: why there is no run; else the text of the run.
use Rattle.std.specs.Prelude.{◌≡◌, ℕ, List}
use Rattle.outside_io.specs.declared.shelf.NamedBytes.{NamedBytes}
use Rattle.instance_check.specs.run_check.RunText.{run_text}
use Rattle.command_replies.specs.Reply.{Answer}
use Rattle.command_replies.specs.Replies.{done}
use Rattle.run_answers.specs.RunFiles.{OnRunFile}

-- what `migrate` answers to the file of a run of either form: the same run as text of form 2
abbrev pub Migrates : List NamedBytes → List ℕ → Answer → Type 0
Migrates texts file reply = OnRunFile (λ run reply. reply ≡ done (run_text run)) texts file reply
