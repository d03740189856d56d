-- What is answered of the file of a run, from what is found in it.
use Rattle.std.proofs.Common.{◌≡◌, ◌∙◌, ap, ℕ, List, Option, Result, Ok, Err, IfOk, inl, inr}
use Rattle.outside_io.specs.declared.shelf.NamedBytes.{NamedBytes}
use Rattle.outside_io.specs.Files.{SomeFiles}
use Rattle.outside_io.proofs.SomeFiles.{onward}
use Rattle.name_scope.specs.FileNumbers.{AddedFile}
use Rattle.run_texts.specs.composition.declared.run.Run.{Run}
use Rattle.run_texts.specs.composition.Scenes.{Scene}
use Rattle.instance_check.specs.run_check.declared.wrong.Wrong.{Wrong}
use Rattle.instance_check.specs.run_check.Answers.{first_wrong}
use Rattle.command_replies.specs.Reply.{Answer}
use Rattle.command_replies.specs.Shelves.{AnswersOrFails}
use Rattle.run_answers.specs.Checks.{verdict}
use Rattle.run_answers.specs.declared.found.FoundRun.{FoundRun}
use Rattle.run_answers.specs.FoundRuns.{IsFoundRun}
use Rattle.run_answers.specs.RunFiles.{IsNoRun, IsRun, OnRunFile, run_limit}
use Rattle.run_answers.specs.TextFiles.{in_file}
use Rattle.run_answers.proofs.OneFile.{onward_file}

-- what is answered of what is wrong first
pub run_judged : {E : Type 0} (answer : Option Wrong → Answer) (scene : Scene) (run : Run) (wrong : Option Wrong) (r : Result Answer E) →
    wrong ≡ first_wrong scene run → IfOk r (λ reply. reply ≡ answer wrong) → IfOk r (λ reply. reply ≡ answer (first_wrong scene run))
run_judged answer scene run wrong (Ok reply) is told = told ∙ ap answer is
run_judged answer scene run wrong (Err e) is told = tt

-- the run is checked
pub run_checked : {E : Type 0} (program : List AddedFile) (scene : Scene) (run : Run) (wrong : Option Wrong) (r : Result Answer E) →
    wrong ≡ first_wrong scene run → IfOk r (λ reply. reply ≡ verdict program wrong) → IfOk r (λ reply. reply ≡ verdict program (first_wrong scene run))
run_checked program = run_judged (verdict program)

module _ (told_files : Option (List NamedBytes)) (file : List ℕ) (Says : Run → Answer → Type 0) (before after : ℕ) where
  abbrev Found : FoundRun → List NamedBytes → Type 0
  Found found texts = IsFoundRun texts file before after found

  abbrev Answered : Answer → List NamedBytes → Type 0
  Answered reply texts = AnswersOrFails (OnRunFile Says texts file) file before after reply

  -- what is said of the run
  pub run_answered : {E : Type 0} (run : Run) (r : Result Answer E) → SomeFiles told_files (λ texts. IsFoundRun texts file before after (FoundRun.Run run)) → IfOk r (Says run) →
      IfOk r (λ reply. SomeFiles told_files (λ texts. AnswersOrFails (OnRunFile Says texts file) file before after reply))
  run_answered run (Ok reply) some said =
      onward told_files (Found (FoundRun.Run run)) (Answered reply) some (λ texts its. inl (in_file its.0.bytes run its.0.there its.0.within its.0.is said, its.1))
  run_answered run (Err e) some said = tt

  -- there is no run
  none_is_answered : (reply : Answer) (texts : List NamedBytes) → Found (FoundRun.Refused reply) texts → Answered reply texts
  none_is_answered reply texts (inl is) = inl (onward_file run_limit IsNoRun IsRun (λ run reply. ⊥) Says texts file reply (λ run never. absurd never) is.0, is.1)
  none_is_answered reply texts (inr is) = inr is

  pub none_answered : (reply : Answer) → SomeFiles told_files (λ texts. IsFoundRun texts file before after (FoundRun.Refused reply)) →
      SomeFiles told_files (λ texts. AnswersOrFails (OnRunFile Says texts file) file before after reply)
  none_answered reply some = onward told_files (Found (FoundRun.Refused reply)) (Answered reply) some (none_is_answered reply)
