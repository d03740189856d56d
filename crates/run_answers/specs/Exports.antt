-- What `export` answers about a scene of a program: why there is no run; else the run in a form, if it is an instance of the scene.
use Rattle.std.specs.Prelude.{◌≡◌, ℕ, List, Option, Some, None}
use Rattle.outside_io.specs.declared.shelf.NamedBytes.{NamedBytes}
use Rattle.name_scope.specs.FileNumbers.{AddedFile}
use Rattle.run_texts.specs.composition.Scenes.{Scene}
use Rattle.run_texts.specs.composition.declared.run.Run.{Run}
use Rattle.instance_check.specs.run_check.declared.wrong.Wrong.{Wrong}
use Rattle.instance_check.specs.run_check.Answers.{first_wrong}
use Rattle.run_exports.specs.FormText.{form_text}
use Rattle.run_exports.specs.declared.forms.Form.{Form}
use Rattle.run_exports.specs.declared.road.Road.{Road}
use Rattle.command_replies.specs.Reply.{Answer}
use Rattle.command_replies.specs.Replies.{done}
use Rattle.run_answers.specs.Checks.{verdict}
use Rattle.run_answers.specs.RunFiles.{OnRunFile}

-- the text of the run in a form if nothing is wrong with it; else the `no` line of `check`
abbrev pub export_verdict : Form → Road → List ℕ → List AddedFile → Run → Option Wrong → Answer
export_verdict form road left program run None = done (form_text form road left run)
export_verdict form road left program run (Some wrong) = verdict program (Some wrong)

-- what `export` answers about a scene of a program and the file of a run
abbrev pub Exports : Form → Road → List ℕ → List NamedBytes → List ℕ → List AddedFile → Scene → Answer → Type 0
Exports form road left texts file program scene reply =
    OnRunFile (λ run reply. reply ≡ export_verdict form road left program run (first_wrong scene run)) texts file reply
