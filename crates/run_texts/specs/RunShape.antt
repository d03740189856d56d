-- The run that JSON data is, or the JSON pointer of the first place where it is none.
use Rattle.std.specs.Prelude.{ℕ, suc, ℤ, ◌+◌, ◌^◌, ◌&&◌, ◌||◌, Bool, false, not, cond, List, [], ◌∷◌, ◌++◌, Option, Some, None, option_map, option_and_then, find, nat_eq, nat_lt, codes, bytes_eq}
use Rattle.std.specs.Option.{option_map_or}
use Rattle.std.specs.Fmt.{decimal}
use Rattle.serde_json.specs.Data.{Data, Items, no_items, item, Members, no_members, member}
use Rattle.serde_json.specs.Find.{get, at, as_str, as_number, as_array, as_object, as_u64, as_i64}
use Rattle.osc_base.specs.declared.path.Path.{Path}
use Rattle.osc_base.specs.declared.sample.Sample.{Sample}
use Rattle.composition.specs.declared.run.Choice.{Choice}
use Rattle.composition.specs.declared.run.Span.{Span}
use Rattle.composition.specs.declared.run.Trace.{Trace}
use Rattle.composition.specs.declared.run.Value.{Value}
use Rattle.composition.specs.declared.run.Run.{Run}
use Rattle.composition.specs.declared.run.Held.{Held}
use Rattle.composition.specs.declared.run.Held.TheVariants.{Number, Chars}
use Rattle.composition.specs.Invariants.{is_from_to}
use Rattle.run_texts.specs.PathForms.{path_from}

-- ---- what data is, or where it differs

-- what data is, or the pointer, from the data on, of the first place where it differs
pub data Shaped (T : Type 0) : Type 0 where
  Fits : T → Shaped T
  Differs : List ℕ → Shaped T

abbrev pub shaped_then : {A B : Type 0} → Shaped A → (A → Shaped B) → Shaped B
shaped_then (Fits x) f = f x
shaped_then (Differs pointer) f = Differs pointer

-- the same of what stands at a step: the pointer begins with the step
abbrev pub inside : {T : Type 0} → List ℕ → Shaped T → Shaped T
inside step (Fits x) = Fits x
inside step (Differs pointer) = Differs (codes "/" ++ step ++ pointer)

-- what there is, else the data itself differs
abbrev pub fits : {T : Type 0} → Option T → Shaped T
fits None = Differs []
fits (Some x) = Fits x

-- what the data is, if there is some
abbrev pub if_there : {T : Type 0} → (Data → Shaped T) → Option Data → Shaped T
if_there f None = Differs []
if_there f (Some d) = f d

-- what stands in a list at a place
abbrev pub item_at : {T : Type 0} → (Data → Shaped T) → ℕ → Data → Shaped T
item_at f i d = inside (decimal i) (if_there f (at i d))

-- what stands at a key
abbrev pub key_at : {T : Type 0} → (Data → Shaped T) → List ℕ → Data → Shaped T
key_at f key d = inside key (if_there f (get key d))

-- each item, from the n-th on
abbrev pub all_from : {T : Type 0} → (Data → Shaped T) → ℕ → Items → Shaped (List T)
all_from f n no_items = Fits []
all_from f n (item d ds) =
    shaped_then (inside (decimal n) (f d)) (λ x. shaped_then (all_from f (n + 1) ds) (λ later. Fits (x ∷ later)))

-- a list, each of whose items is a part
abbrev pub list_in : {T : Type 0} → (Data → Shaped T) → Data → Shaped (List T)
list_in f d = shaped_then (fits (as_array d)) (all_from f 0)

-- how many items there are
abbrev pub items_count : Items → ℕ
items_count no_items = 0
items_count (item d ds) = suc (items_count ds)

-- a list of so many items
abbrev pub is_list_of : ℕ → Data → Bool
is_list_of n d = option_map_or (λ items. nat_eq (items_count items) n) (as_array d) false

-- what a list of so many items is; another list, and what is no list, differs
abbrev pub of_list : {T : Type 0} → ℕ → Data → Shaped T → Shaped T
of_list n d shaped = cond (is_list_of n d) shaped (Differs [])

-- ---- paths and numbers

-- the path that a JSON text is
abbrev pub path_in : Data → Shaped Path
path_in d = fits (option_and_then path_from (as_str d))

-- a number that a `u32` holds
abbrev pub within_u32 : ℕ → Option ℕ
within_u32 n = cond (nat_lt n (2 ^ 32)) (Some n) None

-- a whole number from 0 to 4294967295
abbrev pub count_in : Data → Shaped ℕ
count_in d = fits (option_and_then within_u32 (option_and_then as_u64 (as_number d)))

-- a whole number of 64 bits with sign
abbrev pub integer_in : Data → Shaped ℤ
integer_in d = fits (option_and_then as_i64 (as_number d))

-- a whole number of 64 bits with sign, or a text
abbrev pub held_of : Option ℤ → Option (List ℕ) → Option Held
held_of (Some number) chars = Some (Number number)
held_of None chars = option_map (λ (text : List ℕ). Chars text) chars

abbrev pub held_in : Data → Shaped Held
held_in d = fits (held_of (option_and_then as_i64 (as_number d)) (as_str d))

-- ---- parts of a run

-- `[path, member]`
abbrev pub choice_in : Data → Shaped Choice
choice_in d =
    of_list 2 d (shaped_then (item_at path_in 0 d) (λ path.
    shaped_then (item_at count_in 1 d) (λ member. Fits (record { path = path; member = member }))))

-- `[path, start, end]`
abbrev pub span_in : Data → Shaped Span
span_in d =
    of_list 3 d (shaped_then (item_at path_in 0 d) (λ path.
    shaped_then (item_at count_in 1 d) (λ start.
    shaped_then (item_at count_in 2 d) (λ end. Fits (record { path = path; start = start; end = end })))))

-- `[lane, position, speed]`
abbrev pub sample_in : Data → Shaped Sample
sample_in d =
    of_list 3 d (shaped_then (item_at integer_in 0 d) (λ lane.
    shaped_then (item_at integer_in 1 d) (λ position.
    shaped_then (item_at integer_in 2 d) (λ speed. Fits (record { lane = lane; position = position; speed = speed })))))

-- `[path, samples]`
abbrev pub trace_in : Data → Shaped Trace
trace_in d =
    of_list 2 d (shaped_then (item_at path_in 0 d) (λ path.
    shaped_then (item_at (list_in sample_in) 1 d) (λ samples. Fits (record { path = path; samples = samples }))))

-- `[path, number]` or `[path, text]`
abbrev pub value_in : Data → Shaped Value
value_in d =
    of_list 2 d (shaped_then (item_at path_in 0 d) (λ path.
    shaped_then (item_at held_in 1 d) (λ held. Fits (record { path = path; held = held }))))

-- ---- runs

-- the number 2
abbrev pub is_two : Data → Bool
is_two d = option_map_or (λ n. nat_eq n 2) (option_and_then as_u64 (as_number d)) false

-- the form of data: 2 if its `form` is that number, else 1
abbrev pub form_of : Data → ℕ
form_of d = cond (option_map_or is_two (get (codes "form") d) false) 2 1

-- a number from one to another
abbrev pub count_within : ℕ → ℕ → Data → Shaped ℕ
count_within low high d = shaped_then (count_in d) (λ n. cond (is_from_to low high n) (Fits n) (Differs []))

-- the number of the form, and no other
abbrev pub form_in : ℕ → Data → Shaped ℕ
form_in form d = count_within form form d

-- the length of a tick in milliseconds
abbrev pub tick_in : Data → Shaped ℕ
tick_in d = count_within 10 1000 d

-- the length of the ticks of a run: form 1 doesn't tell it, and has ticks of 100 milliseconds
abbrev pub tick_of : ℕ → Data → Shaped ℕ
tick_of form d = cond (nat_eq form 2) (key_at tick_in (codes "tick") d) (Fits 100)

-- a key of both forms
abbrev pub is_first_key : List ℕ → Bool
is_first_key key =
    bytes_eq key (codes "choices") || bytes_eq key (codes "end") || bytes_eq key (codes "form")
    || bytes_eq key (codes "phases") || bytes_eq key (codes "traces") || bytes_eq key (codes "values")

-- a key of the form
abbrev pub is_run_key : ℕ → List ℕ → Bool
is_run_key form key = is_first_key key || (nat_eq form 2 && bytes_eq key (codes "tick"))

-- the keys of an object, in byte order
abbrev pub keys : Members → List (List ℕ)
keys no_members = []
keys (member key d more) = key ∷ keys more

-- the least key that the object of a run of the form doesn't have
abbrev pub extra_key : ℕ → Data → Option (List ℕ)
extra_key form d = option_and_then (λ members. find (λ key. not (is_run_key form key)) (keys members)) (as_object d)

-- a run, if there is no further key
abbrev pub without : Option (List ℕ) → Run → Shaped Run
without None run = Fits run
without (Some key) run = inside key (Differs [])

-- the run of the form with these choices and this end
abbrev pub run_with : ℕ → List Choice → ℕ → Data → Shaped Run
run_with form choices end d =
    shaped_then (key_at (list_in span_in) (codes "phases") d) (λ phases.
    shaped_then (tick_of form d) (λ tick.
    shaped_then (key_at (list_in trace_in) (codes "traces") d) (λ traces.
    shaped_then (key_at (list_in value_in) (codes "values") d) (λ values.
    without (extra_key form d)
    (record { choices = choices; end = end; phases = phases; tick = tick; traces = traces; values = values })))))

-- the run of the form that data is, or the first place that differs: the keys in order, and then the least further key
abbrev pub run_in : ℕ → Data → Shaped Run
run_in form d =
    shaped_then (key_at (list_in choice_in) (codes "choices") d) (λ choices.
    shaped_then (key_at count_in (codes "end") d) (λ end.
    shaped_then (key_at (form_in form) (codes "form") d) (λ told. run_with form choices end d)))

-- the run that data is, or the first place that differs. The form is looked at first, and told in its turn.
abbrev pub run_from : Data → Shaped Run
run_from d = run_in (form_of d) d
