-- Texts of the first form of runs mean what they meant before ticks had a length of their own.
use Rattle.std.specs.Prelude.{◌≡◌, ℕ, Bool, true, false, List, nat_eq}
use Rattle.std.specs.Option.{option_map_or}
use Rattle.serde_json.specs.Data.{Data}
use Rattle.serde_json.specs.Read.{read}
use Rattle.run_texts.specs.composition.declared.run.Run.{Run}
use Rattle.run_texts.specs.composition.Scenes.{Scene}
use Rattle.run_texts.specs.composition.Claims.{is_instance}
use Rattle.run_texts.specs.RunShape.{Shaped, Fits, Differs, form_of, run_from}
use Rattle.first_form.specs.FirstTexts.{FirstRun, seen}
use Rattle.first_form.specs.FirstTexts as first
use Rattle.first_form.specs.FirstMeaning as first_meaning

-- ---- texts

-- what was read, as runs are now
abbrev pub seen_shape : Shaped FirstRun → Shaped Run
seen_shape (Fits run) = Fits (seen run)
seen_shape (Differs pointer) = Differs pointer

-- data of the first form is read as the run that it was, with ticks of 100 milliseconds, and differs where it differed
abbrev pub FirstRunsAreRead : Type 0
FirstRunsAreRead = (d : Data) → form_of d ≡ 1 → run_from d ≡ seen_shape (first.run_from d)

-- ---- meaning

-- a run with ticks of 100 milliseconds is an instance under such ticks exactly if it was one before
abbrev pub InstancesStay : Type 0
InstancesStay = (scene : Scene) (run : Run) → scene.setting.tick ≡ 100 → run.tick ≡ 100 → is_instance scene run ≡ first_meaning.is_instance scene run

-- ---- both

-- what fits passes a test
abbrev pub fits_test : {T : Type 0} → (T → Bool) → Shaped T → Bool
fits_test test (Fits x) = test x
fits_test test (Differs pointer) = false

-- a text isn't of the second form
abbrev pub is_first_form : List ℕ → Bool
is_first_form bytes = option_map_or (λ d. nat_eq (form_of d) 1) (read bytes) true

-- a text is that of an instance
abbrev pub is_instance_text : Scene → List ℕ → Bool
is_instance_text scene bytes = option_map_or (λ d. fits_test (is_instance scene) (run_from d)) (read bytes) false

-- a text was that of an instance
abbrev pub was_instance_text : Scene → List ℕ → Bool
was_instance_text scene bytes = option_map_or (λ d. fits_test (λ run. first_meaning.is_instance scene (seen run)) (first.run_from d)) (read bytes) false

-- under ticks of 100 milliseconds a text of the first form is that of an instance exactly if it was one before
abbrev pub FirstRunsStay : Type 0
FirstRunsStay = (scene : Scene) (bytes : List ℕ) → scene.setting.tick ≡ 100 → is_first_form bytes ≡ true → is_instance_text scene bytes ≡ was_instance_text scene bytes
