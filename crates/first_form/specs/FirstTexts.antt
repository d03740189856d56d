-- Runs before they told the length of their ticks, and how their texts were read. There were six keys, and `form` was 1.
use Rattle.std.specs.Prelude.{ℕ, cond, not, List, [], Option, Some, None, option_and_then, find, nat_eq, codes}
use Rattle.serde_json.specs.Data.{Data}
use Rattle.serde_json.specs.Find.{as_object}
use Rattle.run_texts.specs.composition.declared.run.Choice.{Choice}
use Rattle.run_texts.specs.composition.declared.run.Span.{Span}
use Rattle.run_texts.specs.composition.declared.run.Trace.{Trace}
use Rattle.run_texts.specs.composition.declared.run.Value.{Value}
use Rattle.run_texts.specs.composition.declared.run.Run.{Run}
use Rattle.run_texts.specs.RunShape.{Shaped, Fits, Differs, shaped_then, inside, key_at, list_in, count_in, choice_in, span_in, trace_in, value_in, keys, is_first_key}

-- a run was five things
pub record FirstRun : Type 0 where
  pub choices : List Choice
  pub end : ℕ
  pub phases : List Span
  pub traces : List Trace
  pub values : List Value

-- such a run, as runs are now: its ticks took 100 milliseconds
abbrev pub seen : FirstRun → Run
seen run = record { choices = run.choices; end = run.end; phases = run.phases; tick = 100; traces = run.traces; values = run.values }

-- the number 1
abbrev pub only_one : ℕ → Shaped ℕ
only_one n = cond (nat_eq n 1) (Fits n) (Differs [])

abbrev pub form_in : Data → Shaped ℕ
form_in d = shaped_then (count_in d) only_one

-- the least key that a run's object didn't have
abbrev pub extra_key : Data → Option (List ℕ)
extra_key d = option_and_then (λ members. find (λ key. not (is_first_key key)) (keys members)) (as_object d)

-- a run, if there is no further key
abbrev pub without : Option (List ℕ) → FirstRun → Shaped FirstRun
without None run = Fits run
without (Some key) run = inside key (Differs [])

-- the run with these choices and this end
abbrev pub run_with : List Choice → ℕ → Data → Shaped FirstRun
run_with choices end d =
    shaped_then (key_at (list_in span_in) (codes "phases") d) (λ phases.
    shaped_then (key_at (list_in trace_in) (codes "traces") d) (λ traces.
    shaped_then (key_at (list_in value_in) (codes "values") d) (λ values.
    without (extra_key d) (record { choices = choices; end = end; phases = phases; traces = traces; values = values }))))

-- the run that data was, or the first place that differed: the six keys in order, and then the least further key
abbrev pub run_from : Data → Shaped FirstRun
run_from d =
    shaped_then (key_at (list_in choice_in) (codes "choices") d) (λ choices.
    shaped_then (key_at count_in (codes "end") d) (λ end.
    shaped_then (key_at form_in (codes "form") d) (λ form. run_with choices end d)))
