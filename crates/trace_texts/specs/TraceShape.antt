-- The recording that JSON data is, or the JSON pointer of the first place where it is none.
use Rattle.std.specs.Prelude.{◌≡◌, ℕ, ◌+◌, ◌||◌, Bool, true, not, cond, List, [], ◌∷◌, ◌++◌, Option, Some, None, find, option_and_then, length, map, codes, bytes_eq}
use Rattle.std.specs.List.{list_any}
use Rattle.std.specs.Fmt.{decimal}
use Rattle.indexmap.specs.IndexMap.{IndexMap, get_by}
use Rattle.std.specs.Option.{is_some}
use Rattle.serde_json.specs.Data.{Data, Items, no_items, item}
use Rattle.serde_json.specs.Find.{as_array, as_object}
use Rattle.osc_base.specs.declared.path.Path.{Path}
use Rattle.osc_base.specs.declared.sample.Sample.{Sample}
use Rattle.osc_base.specs.Paths.{same_path}
use Rattle.run_texts.specs.composition.declared.run.Trace.{Trace}
use Rattle.run_texts.specs.composition.Invariants.{are_distinct}
use Rattle.run_texts.specs.RunShape.{Shaped, Fits, Differs, shaped_then, inside, fits, item_at, key_at, list_in, of_list, path_in, count_in, sample_in, form_in, keys}
use Rattle.asked_forms.specs.declared.traces.Traces.{Traces}
use Rattle.asked_forms.specs.Recordings.{are_counted}

-- ---- traces

-- one of these traces is of the path
abbrev pub has_path : List Trace → Path → Bool
has_path traces path = list_any (λ (t : Trace). same_path t.path path) traces

-- a path of which no trace before is
abbrev pub fresh_path : List Trace → Data → Shaped Path
fresh_path before d = shaped_then (path_in d) (λ path. cond (has_path before path) (Differs []) (Fits path))

-- so many samples
abbrev pub samples_in : ℕ → Data → Shaped (List Sample)
samples_in count d = of_list count d (list_in sample_in d)

-- `[path, samples]`, behind other traces
abbrev pub trace_after : ℕ → List Trace → Data → Shaped Trace
trace_after count before d =
    of_list 2 d (shaped_then (item_at (fresh_path before) 0 d) (λ path.
    shaped_then (item_at (samples_in count) 1 d) (λ samples. Fits (record { path = path; samples = samples }))))

-- other traces, and those of the items behind them
abbrev pub traces_after : ℕ → List Trace → Items → Shaped (List Trace)
traces_after count before no_items = Fits before
traces_after count before (item d ds) =
    shaped_then (inside (decimal (length before)) (trace_after count before d)) (λ t. traces_after count (before ++ t ∷ []) ds)

-- a list of traces, each with so many samples
abbrev pub traces_in : ℕ → Data → Shaped (List Trace)
traces_in count d = shaped_then (fits (as_array d)) (traces_after count [])

-- ---- recordings

-- a key of a recording
abbrev pub is_traces_key : List ℕ → Bool
is_traces_key key = bytes_eq key (codes "end") || bytes_eq key (codes "form") || bytes_eq key (codes "traces")

-- the least key of an object that a recording doesn't have
abbrev pub extra_key : Data → Option (List ℕ)
extra_key d = option_and_then (λ members. find (λ key. not (is_traces_key key)) (keys members)) (as_object d)

-- a recording, if there is no further key
abbrev pub without : Option (List ℕ) → Traces → Shaped Traces
without None traces = Fits traces
without (Some key) traces = inside key (Differs [])

-- the recording that data is, or the first place that differs: the keys in order, and then the least further key
abbrev pub traces_from : Data → Shaped Traces
traces_from d =
    shaped_then (key_at count_in (codes "end") d) (λ end.
    shaped_then (key_at (form_in 1) (codes "form") d) (λ told.
    shaped_then (key_at (traces_in (end + 1)) (codes "traces") d) (λ traces.
    without (extra_key d) (record { end = end; traces = traces }))))

-- each trace of a recording has a sample for each tick from 0 to the end, and no two are of one path
pub record AreTraces (t : Traces) : Type 0 where
  pub counted : are_counted t ≡ true
  pub distinct : are_distinct (map (λ (x : Trace). x.path) t.traces) ≡ true

-- an index has the paths of these traces
abbrev pub AreSeen : {S : Type 0} → IndexMap Path ℕ S → List Trace → Type 0
AreSeen index traces = (path : Path) → is_some (get_by (same_path path) index) ≡ has_path traces path
