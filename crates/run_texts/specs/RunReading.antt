-- What reading the text of a run answers.
use Rattle.std.specs.Prelude.{◌≡◌, ℕ, List, Some, None, Ok, Err, Result, IsUtf8, option_map, ⊤}
use Rattle.serde_json.specs.Read.{read}
use Rattle.serde_json.specs.View.{view}
use Rattle.serde_json.specs.Errors.{IsMemory}
use Rattle.serde_json.specs.declared.value.Value.{Value}
use Rattle.serde_json.specs.declared.error.Error.{Error}
use Rattle.composition.specs.declared.run.Run.{Run}
use Rattle.run_texts.specs.declared.stop.RunStop.{RunStop}
use Rattle.run_texts.specs.declared.stop.RunStop.TheVariants.{BadJson, BadShape, Memory}
use Rattle.run_texts.specs.declared.misfit.Misfit.{Misfit}
use Rattle.run_texts.specs.declared.misfit.Misfit.TheVariants as misfit
use Rattle.run_texts.specs.RunShape.{Shaped, Fits, Differs, run_from}

-- Data is this, as an answer tells it: what it is, or the pointer where it differs. Out of memory tells nothing.
abbrev pub IsTold : {T : Type 0} → Shaped T → Result T Misfit → Type 0
IsTold shaped (Ok x) = shaped ≡ Fits x
IsTold shaped (Err (misfit.At pointer)) = shaped ≡ Differs pointer
IsTold shaped (Err misfit.Memory) = ⊤

-- The answer to the text of a run: the run that it is; that it is no JSON; or where it is no run. Out of memory tells nothing.
abbrev pub IsReading : List ℕ → Result Run RunStop → Type 0
IsReading bytes (Ok run) = IsUtf8 bytes × (option_map run_from (read bytes) ≡ Some (Fits run))
IsReading bytes (Err BadJson) = IsUtf8 bytes → read bytes ≡ None
IsReading bytes (Err (BadShape pointer)) = IsUtf8 bytes × (option_map run_from (read bytes) ≡ Some (Differs pointer))
IsReading bytes (Err Memory) = ⊤

-- the JSON value of a text
abbrev pub IsJson : List ℕ → Result Value RunStop → Type 0
IsJson bytes (Ok json) = IsUtf8 bytes × (read bytes ≡ Some (view json))
IsJson bytes (Err BadJson) = IsUtf8 bytes → read bytes ≡ None
IsJson bytes (Err (BadShape pointer)) = ⊥
IsJson bytes (Err Memory) = ⊤

-- why there is no JSON value
abbrev pub IsStopOf : Error → RunStop → Type 0
IsStopOf error BadJson = IsMemory error → ⊥
IsStopOf error (BadShape pointer) = ⊥
IsStopOf error Memory = IsMemory error

-- what a run's data differs in, or out of memory
abbrev pub IsShapeOf : Misfit → RunStop → Type 0
IsShapeOf (misfit.At pointer) stop = stop ≡ BadShape pointer
IsShapeOf misfit.Memory stop = stop ≡ Memory
