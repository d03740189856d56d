-- The data of a run whose paths have texts is that run, and so is its text.
use Rattle.std.proofs.Common.{◌≡◌, ◌∙◌, refl, ap, ap₂, ℕ, ℤ, pos, negsuc, ◌+◌, Bool, true, cond, ◌&&◌, List, [], ◌∷◌, Some, None, map, codes}
use Rattle.std.specs.Prelude.{if◌then◌else◌, option_map}
use Rattle.std.specs.Fmt.{decimal}
use Rattle.std.specs.List.{list_all}
use Rattle.serde_json.specs.Data.{Data}
use Rattle.serde_json.specs.Find.{as_i64, of_integer}
use Rattle.serde_json.specs.Read.{read}
use Rattle.serde_json.specs.View.{items_of}
use Rattle.serde_json.specs.Written.{compact_text}
use Rattle.osc_base.specs.Path.{path_text}
use Rattle.osc_base.specs.declared.path.Path.{Path}
use Rattle.osc_base.specs.declared.sample.Sample.{Sample}
use Rattle.run_check.specs.composition.declared.run.Choice.{Choice}
use Rattle.run_check.specs.composition.declared.run.Span.{Span}
use Rattle.run_check.specs.composition.declared.run.Trace.{Trace}
use Rattle.run_check.specs.composition.declared.run.Value.{Value}
use Rattle.run_check.specs.composition.declared.run.Run.{Run}
use Rattle.run_check.specs.composition.declared.run.Held.{Held}
use Rattle.run_check.specs.composition.declared.run.Held.TheVariants.{Number, Chars}
use Rattle.run_check.specs.composition.Invariants.{is_from_to}
use Rattle.run_check.specs.RunText.{count_data, choice_data, span_data, sample_data, trace_data, held_data, value_data, run_data, run_text}
use Rattle.run_texts.specs.RunShape.{Shaped, Fits, Differs, shaped_then, inside, fits, all_from, within_u32, held_of, held_in, choice_in, span_in, sample_in, trace_in, value_in, tick_in, run_from}
use Rattle.run_texts.specs.PathForms.{path_from}
use Rattle.run_texts.proofs.PathForms.{path_given}
use Rattle.run_tests.specs.WrittenRuns.{is_u32, is_i64, has_text, is_written_choice, is_written_span, is_written_sample, is_written_trace, is_written_held, is_written_value, is_written_run}
use Rattle.run_tests.proofs.LineFeeds.{read_feed}
use Rattle.run_tests.proofs.WrittenData.{both, short_tick, data_back}

path_back : (path : Path) → has_text path ≡ true → fits (path_from (path_text path.steps)) ≡ Fits path
path_back path h = ap fits (path_given (path_text path.steps) path (record { written = h; text_is = refl }))

count_back : (n : ℕ) → is_u32 n ≡ true → fits (within_u32 n) ≡ Fits n
count_back n h = ap (λ b. fits (cond b (Some n) None)) h

integer_back : (z : ℤ) → is_i64 z ≡ true → as_i64 (of_integer z) ≡ Some z
integer_back (pos n) h = ap (λ b. if b then Some (pos n) else None) h
integer_back (negsuc n) h = refl

tick_back : (n : ℕ) → is_from_to 10 1000 n ≡ true → tick_in (count_data n) ≡ Fits n
tick_back n h = ap (λ s. shaped_then s (λ k. cond (is_from_to 10 1000 k) (Fits k) (Differs []))) (count_back n (short_tick n h)) ∙ ap (λ b. cond b (Fits n) (Differs [])) h

-- ---- lists

list_back : {T : Type 0} (f : Data → Shaped T) (data_of : T → Data) (test : T → Bool) → ((x : T) → test x ≡ true → f (data_of x) ≡ Fits x) → (n : ℕ) (xs : List T)
    → list_all test xs ≡ true → all_from f n (items_of (map data_of xs)) ≡ Fits xs
list_back f data_of test back n [] h = refl
list_back f data_of test back n (x ∷ xs) h =
    let parts = both (test x) (list_all test xs) h in
    ap₂ (λ o s. shaped_then (inside (decimal n) o) (λ y. shaped_then s (λ later. Fits (y ∷ later)))) (back x parts.0) (list_back f data_of test back (n + 1) xs parts.1)

-- ---- parts

choice_back : (c : Choice) → is_written_choice c ≡ true → choice_in (choice_data c) ≡ Fits c
choice_back c h =
    let parts = both (has_text c.path) (is_u32 c.member) h in
    λ i.
    shaped_then (inside (decimal 0) (path_back c.path parts.0 i)) (λ path.
    shaped_then (inside (decimal 1) (count_back c.member parts.1 i)) (λ member. Fits (record { path = path; member = member })))

span_back : (s : Span) → is_written_span s ≡ true → span_in (span_data s) ≡ Fits s
span_back s h =
    let parts = both (has_text s.path) (is_u32 s.start && is_u32 s.end) h in
    let ends = both (is_u32 s.start) (is_u32 s.end) parts.1 in
    λ i.
    shaped_then (inside (decimal 0) (path_back s.path parts.0 i)) (λ path.
    shaped_then (inside (decimal 1) (count_back s.start ends.0 i)) (λ start.
    shaped_then (inside (decimal 2) (count_back s.end ends.1 i)) (λ end. Fits (record { path = path; start = start; end = end }))))

sample_back : (s : Sample) → is_written_sample s ≡ true → sample_in (sample_data s) ≡ Fits s
sample_back s h =
    let parts = both (is_i64 s.lane) (is_i64 s.position && is_i64 s.speed) h in
    let more = both (is_i64 s.position) (is_i64 s.speed) parts.1 in
    λ i.
    shaped_then (inside (decimal 0) (fits (integer_back s.lane parts.0 i))) (λ lane.
    shaped_then (inside (decimal 1) (fits (integer_back s.position more.0 i))) (λ position.
    shaped_then (inside (decimal 2) (fits (integer_back s.speed more.1 i))) (λ speed. Fits (record { lane = lane; position = position; speed = speed }))))

trace_back : (t : Trace) → is_written_trace t ≡ true → trace_in (trace_data t) ≡ Fits t
trace_back t h =
    let parts = both (has_text t.path) (list_all is_written_sample t.samples) h in
    λ i.
    shaped_then (inside (decimal 0) (path_back t.path parts.0 i)) (λ path.
    shaped_then (inside (decimal 1) (list_back sample_in sample_data is_written_sample sample_back 0 t.samples parts.1 i)) (λ samples. Fits (record { path = path; samples = samples })))

held_back : (held : Held) → is_written_held held ≡ true → held_in (held_data held) ≡ Fits held
held_back (Number z) h = ap (λ o. fits (held_of o None)) (integer_back z h)
held_back (Chars text) h = refl

value_back : (v : Value) → is_written_value v ≡ true → value_in (value_data v) ≡ Fits v
value_back v h =
    let parts = both (has_text v.path) (is_written_held v.held) h in
    λ i.
    shaped_then (inside (decimal 0) (path_back v.path parts.0 i)) (λ path.
    shaped_then (inside (decimal 1) (held_back v.held parts.1 i)) (λ held. Fits (record { path = path; held = held })))

-- ---- runs

run_back : (run : Run) → is_written_run run ≡ true → run_from (run_data run) ≡ Fits run
run_back run h =
    let a = both (list_all is_written_choice run.choices) (is_u32 run.end && (list_all is_written_span run.phases && (is_from_to 10 1000 run.tick && (list_all is_written_trace run.traces && list_all is_written_value run.values)))) h in
    let b = both (is_u32 run.end) (list_all is_written_span run.phases && (is_from_to 10 1000 run.tick && (list_all is_written_trace run.traces && list_all is_written_value run.values))) a.1 in
    let c = both (list_all is_written_span run.phases) (is_from_to 10 1000 run.tick && (list_all is_written_trace run.traces && list_all is_written_value run.values)) b.1 in
    let t = both (is_from_to 10 1000 run.tick) (list_all is_written_trace run.traces && list_all is_written_value run.values) c.1 in
    let d = both (list_all is_written_trace run.traces) (list_all is_written_value run.values) t.1 in
    λ i.
    shaped_then (inside (codes "choices") (list_back choice_in choice_data is_written_choice choice_back 0 run.choices a.0 i)) (λ choices.
    shaped_then (inside (codes "end") (count_back run.end b.0 i)) (λ end.
    shaped_then (inside (codes "phases") (list_back span_in span_data is_written_span span_back 0 run.phases c.0 i)) (λ phases.
    shaped_then (inside (codes "tick") (tick_back run.tick t.0 i)) (λ tick.
    shaped_then (inside (codes "traces") (list_back trace_in trace_data is_written_trace trace_back 0 run.traces d.0 i)) (λ traces.
    shaped_then (inside (codes "values") (list_back value_in value_data is_written_value value_back 0 run.values d.1 i)) (λ values.
    Fits (record { choices = choices; end = end; phases = phases; tick = tick; traces = traces; values = values })))))))

pub text_back : (run : Run) → is_written_run run ≡ true → option_map run_from (read (run_text run)) ≡ Some (Fits run)
unfolding run_text
text_back run h =
    ap (option_map run_from) (read_feed (compact_text (run_data run)) ∙ data_back run h) ∙ ap Some (run_back run h)
