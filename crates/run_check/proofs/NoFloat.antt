-- No number in a run's text is a float, so its compact text is exact.
use Rattle.std.proofs.Common.{◌≡◌, ◌∙◌, ap, Result, Ok, Err, IfOk, String, refl, false, List, [], ◌∷◌, map, ℤ, pos, negsuc}
use Rattle.serde_json.specs.Data.{Data}
use Rattle.serde_json.specs.View.{items_of}
use Rattle.serde_json.specs.Written.{has_float, items_have_float, compact_text}
use Rattle.std.specs.String.{string_bytes}
use Rattle.std.specs.declared.alloc.Global.{Global}
use Rattle.osc_base.specs.declared.sample.Sample.{Sample}
use Rattle.composition.specs.declared.run.Trace.{Trace}
use Rattle.composition.specs.declared.run.Value.{Value}
use Rattle.composition.specs.declared.run.Run.{Run}
use Rattle.composition.specs.declared.run.Held.{Held}
use Rattle.composition.specs.declared.run.Held.TheVariants.{Number, Chars}
use Rattle.run_check.specs.RunText.{run_data, choice_data, span_data, sample_data, trace_data, value_data, held_data, integer_data}

integer_free : (z : ℤ) → has_float (integer_data z) ≡ false
integer_free (pos n) = refl
integer_free (negsuc n) = refl

list_free : {T : Type 0} (f : T → Data) → ((x : T) → has_float (f x) ≡ false) → (xs : List T) → items_have_float (items_of (map f xs)) ≡ false
list_free f free [] = refl
list_free f free (x ∷ xs) = rw (free x) (list_free f free xs)

sample_free : (s : Sample) → has_float (sample_data s) ≡ false
sample_free s = rw (integer_free s.lane, integer_free s.position, integer_free s.speed) refl

trace_free : (t : Trace) → has_float (trace_data t) ≡ false
trace_free t = rw (list_free sample_data sample_free t.samples) refl

held_free : (h : Held) → has_float (held_data h) ≡ false
held_free (Number z) = integer_free z
held_free (Chars text) = refl

value_free : (v : Value) → has_float (value_data v) ≡ false
value_free v = rw (held_free v.held) refl

pub run_free : (run : Run) → has_float (run_data run) ≡ false
run_free run =
    rw (
      list_free choice_data (λ c. refl) run.choices,
      list_free span_data (λ s. refl) run.phases,
      list_free trace_data trace_free run.traces,
      list_free value_data value_free run.values,
    ) refl

-- what is written of the JSON of a run is the run's text
pub written : {E : Type 0} (run : Run) (d : Data) (r : Result (String Global) E) → d ≡ run_data run →
    IfOk r (λ s. has_float d ≡ false → string_bytes s ≡ compact_text d) →
    IfOk r (λ s. string_bytes s ≡ compact_text (run_data run))
written run d (Ok s) same text = text (ap has_float same ∙ run_free run) ∙ ap compact_text same
written run d (Err e) same text = tt
