-- The file of a run has one answer of each command, and some answer.
use Rattle.std.proofs.Common.{◌≡◌, ◌∙◌, refl, sym, ap, ℕ, List, Option, Some, None, codes}
use Rattle.std.specs.Prelude.{IsUtf8, option_map}
use Rattle.serde_json.specs.Read.{read}
use Rattle.serde_json.specs.Data.{Data}
use Rattle.outside_io.specs.declared.shelf.NamedBytes.{NamedBytes}
use Rattle.name_scope.specs.FileNumbers.{AddedFile}
use Rattle.run_texts.specs.composition.declared.run.Run.{Run}
use Rattle.run_texts.specs.composition.Scenes.{Scene}
use Rattle.instance_check.specs.run_check.Answers.{first_wrong}
use Rattle.instance_check.specs.run_check.RunText.{run_text}
use Rattle.run_texts.specs.RunShape.{Shaped, Fits, Differs, run_from}
use Rattle.run_exports.specs.declared.forms.Form.{Form}
use Rattle.run_exports.specs.declared.road.Road.{Road}
use Rattle.command_replies.specs.Reply.{Answer}
use Rattle.command_replies.specs.Replies.{done}
use Rattle.run_answers.specs.Checks.{Checks, verdict}
use Rattle.run_answers.specs.Exports.{Exports, export_verdict}
use Rattle.run_answers.specs.Migrations.{Migrates}
use Rattle.run_answers.specs.RunFiles.{IsNoRun, no_json, no_run, IsRun, run_limit}
use Rattle.run_answers.proofs.OneFile.{IsOneReading, IsSomeReading, one_file, some_file}

-- ---- one reading

module _ (bytes : List ℕ) where
  -- two forms of one JSON text
  one_form : (shaped other : Shaped Run) → option_map run_from (read bytes) ≡ Some shaped → option_map run_from (read bytes) ≡ Some other → shaped ≡ other
  one_form shaped other is is' = let same : Some shaped ≡ Some other = sym is ∙ is' in cc

  -- no JSON text has a form
  no_form : (shaped : Shaped Run) → option_map run_from (read bytes) ≡ Some shaped → read bytes ≡ None → ⊥
  no_form shaped is none = let same : Some shaped ≡ None = sym is ∙ ap (option_map run_from) none in cc

  same_run : (run other : Run) → Fits run ≡ Fits other → run ≡ other
  same_run run other same = cc

  abbrev differs : List ℕ → Shaped Run
  differs pointer = Differs pointer

  same_pointer : (pointer other : List ℕ) → differs pointer ≡ differs other → pointer ≡ other
  same_pointer pointer other same = cc

  run_or_pointer : (run : Run) (pointer : List ℕ) → Fits run ≡ Differs pointer → ⊥
  run_or_pointer run pointer same = cc

  one_reason : (what other : List ℕ) → IsNoRun bytes what → IsNoRun bytes other → what ≡ other
  one_reason what other (no_json is same) (no_json is' same') = same ∙ sym same'
  one_reason what other (no_json is same) (no_run is') = absurd (no_form (Differs other) is'.1 (is is'.0))
  one_reason what other (no_run is) (no_json is' same') = absurd (no_form (Differs what) is.1 (is' is.0))
  one_reason what other (no_run is) (no_run is') = same_pointer what other (one_form (Differs what) (Differs other) is.1 is'.1)

  one_run : (run other : Run) → IsRun bytes run → IsRun bytes other → run ≡ other
  one_run run other is is' = same_run run other (one_form (Fits run) (Fits other) is.1 is'.1)

  run_or_reason : (what : List ℕ) (run : Run) → IsNoRun bytes what → IsRun bytes run → ⊥
  run_or_reason what run (no_json is same) is' = no_form (Fits run) is'.1 (is is'.0)
  run_or_reason what run (no_run is) is' = run_or_pointer run what (one_form (Fits run) (Differs what) is'.1 is.1)

one_reading : IsOneReading IsNoRun IsRun
one_reading = record { one_reason = one_reason; one_thing = one_run; never_both = run_or_reason }

-- ---- some reading

module _ (bytes : List ℕ) (no_reason : (what : List ℕ) → IsNoRun bytes what → ⊥) (no_thing : (run : Run) → IsRun bytes run → ⊥) where
  of_shape : IsUtf8 bytes → (shaped : Shaped Run) → option_map run_from (read bytes) ≡ Some shaped → ⊥
  of_shape chars (Fits run) is = no_thing run (chars, is)
  of_shape chars (Differs pointer) is = no_reason pointer (no_run (chars, is))

  of_data : IsUtf8 bytes → (data' : Option Data) → read bytes ≡ data' → ⊥
  of_data chars (Some d) is = of_shape chars (run_from d) (ap (option_map run_from) is)
  of_data chars None is = no_reason (codes "json") (no_json (λ chars. is) refl)

  -- bytes that aren't UTF-8 are no JSON text
  some_reading : ⊥
  some_reading = no_reason (codes "json") (no_json (λ chars. absurd (of_data chars (read bytes) refl)) refl)

-- ---- one answer

same_answer : (answer reply other : Answer) → reply ≡ answer → other ≡ answer → reply ≡ other
same_answer answer reply other is is' = is ∙ sym is'

-- the file of a run has one answer of `check`
pub one_check : (texts : List NamedBytes) (file : List ℕ) (program : List AddedFile) (scene : Scene) (reply other : Answer) → Checks texts file program scene reply →
    Checks texts file program scene other → reply ≡ other
one_check texts file program scene reply other =
    one_file run_limit IsNoRun IsRun (λ run reply. reply ≡ verdict program (first_wrong scene run)) texts file one_reading
    (λ run. same_answer (verdict program (first_wrong scene run))) reply other

-- the file of a run has one answer of `export`
pub one_export : (form : Form) (road : Road) (left : List ℕ) (texts : List NamedBytes) (file : List ℕ) (program : List AddedFile) (scene : Scene) (reply other : Answer) →
    Exports form road left texts file program scene reply → Exports form road left texts file program scene other → reply ≡ other
one_export form road left texts file program scene reply other =
    one_file run_limit IsNoRun IsRun (λ run reply. reply ≡ export_verdict form road left program run (first_wrong scene run)) texts file one_reading
    (λ run. same_answer (export_verdict form road left program run (first_wrong scene run))) reply other

-- the file of a run has one answer of `migrate`
pub one_migration : (texts : List NamedBytes) (file : List ℕ) (reply other : Answer) → Migrates texts file reply → Migrates texts file other → reply ≡ other
one_migration texts file reply other =
    one_file run_limit IsNoRun IsRun (λ run reply. reply ≡ done (run_text run)) texts file one_reading (λ run. same_answer (done (run_text run))) reply other

-- ---- some answer

some_equal : (answer : Answer) → ((reply : Answer) → reply ≡ answer → ⊥) → ⊥
some_equal answer none = none answer refl

-- the file of a run has some answer of `check`: it can't be that it has none
pub some_check : (texts : List NamedBytes) (file : List ℕ) (program : List AddedFile) (scene : Scene) → ((reply : Answer) → Checks texts file program scene reply → ⊥) → ⊥
some_check texts file program scene =
    some_file run_limit IsNoRun IsRun (λ run reply. reply ≡ verdict program (first_wrong scene run)) texts file some_reading (λ run. some_equal (verdict program (first_wrong scene run)))

-- and some answer of `export`
pub some_export : (form : Form) (road : Road) (left : List ℕ) (texts : List NamedBytes) (file : List ℕ) (program : List AddedFile) (scene : Scene) →
    ((reply : Answer) → Exports form road left texts file program scene reply → ⊥) → ⊥
some_export form road left texts file program scene =
    some_file run_limit IsNoRun IsRun (λ run reply. reply ≡ export_verdict form road left program run (first_wrong scene run)) texts file some_reading
    (λ run. some_equal (export_verdict form road left program run (first_wrong scene run)))

-- and some answer of `migrate`
pub some_migration : (texts : List NamedBytes) (file : List ℕ) → ((reply : Answer) → Migrates texts file reply → ⊥) → ⊥
some_migration texts file =
    some_file run_limit IsNoRun IsRun (λ run reply. reply ≡ done (run_text run)) texts file some_reading (λ run. some_equal (done (run_text run)))
