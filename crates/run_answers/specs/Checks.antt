-- What `check` answers about a scene of a program: why there is no run; else whether the run is an instance of the scene.
use Rattle.std.specs.Prelude.{◌≡◌, ℕ, List, Option, Some, None, codes}
use Rattle.outside_io.specs.declared.shelf.NamedBytes.{NamedBytes}
use Rattle.osc_base.specs.Path.{path_text}
use Rattle.name_scope.specs.FileNumbers.{AddedFile}
use Rattle.run_texts.specs.composition.Scenes.{Scene}
use Rattle.instance_check.specs.run_check.declared.wrong.Wrong.{Wrong}
use Rattle.instance_check.specs.run_check.Answers.{first_wrong}
use Rattle.command_replies.specs.Reply.{Answer}
use Rattle.command_replies.specs.Replies.{done, not_instance}
use Rattle.run_answers.specs.RunFiles.{OnRunFile}
use Rattle.run_answers.specs.Verdicts.{clause_word, place_text}

-- `yes`; or the clause that fails first, the path at which it fails, and the place of the constraint or modifier that it is about
abbrev pub verdict : List AddedFile → Option Wrong → Answer
verdict program None = done (codes "yes\n")
verdict program (Some wrong) = not_instance (clause_word wrong.clause) (path_text wrong.path.steps) (place_text program wrong.place)

-- what `check` answers about a scene of a program and the file of a run
abbrev pub Checks : List NamedBytes → List ℕ → List AddedFile → Scene → Answer → Type 0
Checks texts file program scene reply = OnRunFile (λ run reply. reply ≡ verdict program (first_wrong scene run)) texts file reply
