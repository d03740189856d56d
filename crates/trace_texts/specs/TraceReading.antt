-- What reading the text of a recording answers.
use Rattle.std.specs.Prelude.{◌≡◌, ℕ, List, Some, None, Ok, Err, Result, IsUtf8, option_map, ⊤}
use Rattle.serde_json.specs.Read.{read}
use Rattle.serde_json.specs.View.{view}
use Rattle.serde_json.specs.declared.value.Value.{Value}
use Rattle.run_texts.specs.declared.stop.RunStop.{RunStop}
use Rattle.run_texts.specs.declared.stop.RunStop.TheVariants as run_stop
use Rattle.run_texts.specs.declared.misfit.Misfit.{Misfit}
use Rattle.run_texts.specs.declared.misfit.Misfit.TheVariants as misfit
use Rattle.run_texts.specs.RunShape.{Fits, Differs}
use Rattle.asked_forms.specs.declared.traces.Traces.{Traces}
use Rattle.trace_texts.specs.declared.stop.TracesStop.{TracesStop}
use Rattle.trace_texts.specs.declared.stop.TracesStop.TheVariants.{BadJson, BadShape, Memory}
use Rattle.trace_texts.specs.TraceShape.{traces_from}

-- The answer to the text of a recording: the recording that it is; that it is no JSON; or where it is no recording. Out of memory tells nothing.
abbrev pub IsReading : List ℕ → Result Traces TracesStop → Type 0
IsReading bytes (Ok traces) = IsUtf8 bytes × (option_map traces_from (read bytes) ≡ Some (Fits traces))
IsReading bytes (Err BadJson) = IsUtf8 bytes → read bytes ≡ None
IsReading bytes (Err (BadShape pointer)) = IsUtf8 bytes × (option_map traces_from (read bytes) ≡ Some (Differs pointer))
IsReading bytes (Err Memory) = ⊤

-- the JSON value of a text
abbrev pub IsJson : List ℕ → Result Value TracesStop → Type 0
IsJson bytes (Ok json) = IsUtf8 bytes × (read bytes ≡ Some (view json))
IsJson bytes (Err BadJson) = IsUtf8 bytes → read bytes ≡ None
IsJson bytes (Err (BadShape pointer)) = ⊥
IsJson bytes (Err Memory) = ⊤

-- the same stop, of a recording
abbrev pub IsStopOf : RunStop → TracesStop → Type 0
IsStopOf run_stop.BadJson stop = stop ≡ BadJson
IsStopOf (run_stop.BadShape pointer) stop = stop ≡ BadShape pointer
IsStopOf run_stop.Memory stop = stop ≡ Memory

-- what a recording's data differs in, or out of memory
abbrev pub IsShapeOf : Misfit → TracesStop → Type 0
IsShapeOf (misfit.At pointer) stop = stop ≡ BadShape pointer
IsShapeOf misfit.Memory stop = stop ≡ Memory
