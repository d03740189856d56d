-- The traces of a list, one item after another.
use Rattle.std.proofs.Common.{◌≡◌, ◌∙◌, refl, sym, ap, subst, ℕ, ◌+◌, ◌<◌, List, [], ◌∷◌, ◌++◌, Result, Ok, Err, length, length-append, drop, get_or}
use Rattle.std.specs.Prelude.{IsErrAnd}
use Rattle.std.specs.Fmt.{decimal}
use Rattle.serde_json.specs.Data.{Data, Items, item}
use Rattle.serde_json.specs.View.{view, items_view}
use Rattle.serde_json.specs.declared.value.Value.{Value}
use Rattle.run_texts.specs.composition.declared.run.Trace.{Trace}
use Rattle.run_texts.specs.declared.misfit.Misfit.{Misfit}
use Rattle.run_texts.specs.declared.misfit.Misfit.TheVariants.{At, Memory}
use Rattle.run_texts.specs.RunShape.{Shaped, Fits, Differs, shaped_then, inside}
use Rattle.run_texts.specs.RunReading.{IsTold}
use Rattle.run_texts.proofs.Told.{items_more}
use Rattle.trace_texts.specs.TraceShape.{trace_after, traces_after}

-- what a list goes on with, after what is told of one trace
abbrev pub go_on : ℕ → List Trace → Items → Shaped Trace → Shaped (List Trace)
go_on count before ds s = shaped_then s (λ t. traces_after count (before ++ t ∷ []) ds)

-- the next item of a list, behind as many traces as items before
pub next_item : (count : ℕ) (before : List Trace) (vs : List Value) (n : ℕ) (v : Value) → n < length vs → v ≡ get_or vs n v → length before ≡ n
    → traces_after count before (items_view (drop n vs)) ≡ go_on count before (items_view (drop (n + 1) vs)) (inside (decimal n) (trace_after count before (view v)))
next_item count before vs n v less is many =
    ap (traces_after count before) (items_more vs n v less)
    ∙ ap (λ w. go_on count before (items_view (drop (n + 1) vs)) (inside (decimal (length before)) (trace_after count before (view w)))) (sym is)
    ∙ ap (λ m. go_on count before (items_view (drop (n + 1) vs)) (inside (decimal m) (trace_after count before (view v)))) many

-- a trace that is read goes behind the others
pub one_more : (count : ℕ) (whole : Shaped (List Trace)) (before after : List Trace) (vs : List Value) (n : ℕ) (v : Value) (t : Trace)
    → traces_after count before (items_view (drop n vs)) ≡ whole → n < length vs → v ≡ get_or vs n v → length before ≡ n → after ≡ before ++ t ∷ []
    → inside (decimal n) (trace_after count before (view v)) ≡ Fits t → traces_after count after (items_view (drop (n + 1) vs)) ≡ whole
one_more count whole before after vs n v t so less is many more told =
    ap (λ ts. traces_after count ts (items_view (drop (n + 1) vs))) more
    ∙ sym (next_item count before vs n v less is many ∙ ap (go_on count before (items_view (drop (n + 1) vs))) told) ∙ so

pub longer : (before after : List Trace) (n : ℕ) (t : Trace) → length before ≡ n → after ≡ before ++ t ∷ [] → length after ≡ n + 1
longer before after n t many more = ap length more ∙ length-append before (t ∷ []) ∙ ap (λ m. m + 1) many

-- the stop of an item is that of the list
pub item_stops : (count : ℕ) (whole : Shaped (List Trace)) (before : List Trace) (vs : List Value) (n : ℕ) (v : Value) (e : Misfit) (r : Result (List Trace) Misfit)
    → traces_after count before (items_view (drop n vs)) ≡ whole → n < length vs → v ≡ get_or vs n v → length before ≡ n
    → IsTold {T = Trace} (inside (decimal n) (trace_after count before (view v))) (Err e) → IsErrAnd r (λ x. x ≡ e) → IsTold {T = List Trace} whole r
item_stops count whole before vs n v e (Ok x) so less is many told h = absurd h
item_stops count whole before vs n v (At p) (Err x) so less is many told h =
    subst (λ z. IsTold {T = List Trace} whole (Err z)) (sym h)
    (sym so ∙ next_item count before vs n v less is many ∙ ap (go_on count before (items_view (drop (n + 1) vs))) told)
item_stops count whole before vs n v Memory (Err x) so less is many told h = subst (λ z. IsTold {T = List Trace} whole (Err z)) (sym h) tt
