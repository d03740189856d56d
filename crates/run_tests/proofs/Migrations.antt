-- Each run that a text is read as has a text that can be read back.
use Rattle.std.proofs.Common.{◌≡◌, refl, subst, ℕ, ◌+◌, ◌^◌, ℤ, Bool, true, false, cond, ◌&&◌, List, [], ◌∷◌, Option, Some, None, codes}
use Rattle.std.specs.Prelude.{nat_eq, nat_lt, option_map, option_and_then, ⊤}
use Rattle.std.specs.Fmt.{decimal}
use Rattle.std.specs.List.{list_all}
use Rattle.serde_json.specs.Data.{Data, null, boolean, number, string, array, object, Items, no_items, item}
use Rattle.serde_json.specs.Find.{get, at, as_str, as_number, as_u64, as_i64}
use Rattle.serde_json.specs.Read.{read}
use Rattle.osc_base.specs.declared.path.Path.{Path}
use Rattle.run_check.specs.composition.declared.run.Choice.{Choice}
use Rattle.run_check.specs.composition.declared.run.Run.{Run}
use Rattle.run_check.specs.composition.declared.run.Held.{Held}
use Rattle.run_check.specs.composition.declared.run.Held.TheVariants.{Number, Chars}
use Rattle.run_check.specs.composition.Invariants.{is_from_to}
use Rattle.run_check.specs.RunText.{run_text}
use Rattle.run_texts.specs.PathForms.{path_from}
use Rattle.run_texts.specs.RunShape.{Shaped, Fits, Differs, shaped_then, inside, fits, if_there, item_at, key_at, all_from, list_in, is_list_of, of_list, path_in, within_u32, count_in, integer_in, held_of, held_in, choice_in, span_in, sample_in, trace_in, value_in, count_within, form_in, form_of, tick_in, tick_of, extra_key, without, run_with, run_in, run_from}
use Rattle.run_texts.proofs.PathForms.{PathIs, path_from_is}
use Rattle.run_tests.specs.WrittenRuns.{is_u32, is_i64, has_text, is_written_choice, is_written_span, is_written_sample, is_written_trace, is_written_held, is_written_value, is_written_run}
use Rattle.run_tests.proofs.NarrowData.{IsNarrow, Narrow, NarrowItems, NarrowIf, get_narrow, at_narrow, read_narrow}
use Rattle.run_tests.proofs.RoundTrips.{text_back}

-- ---- what holds of what fits

-- what fits passes a test
abbrev IfFits : {T : Type 0} → (T → Bool) → Shaped T → Type 0
IfFits test (Fits x) = test x ≡ true
IfFits test (Differs pointer) = ⊤

-- what narrow data fits as passes a test
abbrev EachFits : {T : Type 0} → (T → Bool) → (Data → Shaped T) → Type 0
EachFits test f = (d : Data) → Narrow d → IfFits test (f d)

and_true : (a b : Bool) → a ≡ true → b ≡ true → a && b ≡ true
and_true true b p q = q
and_true false b p q = p

fits_then : {A B : Type 0} (p : A → Bool) (q : B → Bool) (s : Shaped A) (f : A → Shaped B) → IfFits p s → ((x : A) → p x ≡ true → IfFits q (f x)) → IfFits q (shaped_then s f)
fits_then p q (Fits x) f h g = g x h
fits_then p q (Differs pointer) f h g = tt

fits_inside : {T : Type 0} (p : T → Bool) (step : List ℕ) (s : Shaped T) → IfFits p s → IfFits p (inside step s)
fits_inside p step (Fits x) h = h
fits_inside p step (Differs pointer) h = tt

fits_there : {T : Type 0} (p : T → Bool) (f : Data → Shaped T) → EachFits p f → (o : Option Data) → NarrowIf o → IfFits p (if_there f o)
fits_there p f each None n = tt
fits_there p f each (Some d) n = each d n

fits_item : {T : Type 0} (p : T → Bool) (f : Data → Shaped T) → EachFits p f → (i : ℕ) → EachFits p (item_at f i)
fits_item p f each i d n = fits_inside p (decimal i) (if_there f (at i d)) (fits_there p f each (at i d) (at_narrow i d n))

fits_key : {T : Type 0} (p : T → Bool) (f : Data → Shaped T) → EachFits p f → (key : List ℕ) → EachFits p (key_at f key)
fits_key p f each key d n = fits_inside p key (if_there f (get key d)) (fits_there p f each (get key d) (get_narrow key d n))

fits_all : {T : Type 0} (p : T → Bool) (f : Data → Shaped T) → EachFits p f → (i : ℕ) (ds : Items) → NarrowItems ds → IfFits (list_all p) (all_from f i ds)
fits_all p f each i no_items n = refl
fits_all p f each i (item d ds) n =
    fits_then p (list_all p) (inside (decimal i) (f d)) _ (fits_inside p (decimal i) (f d) (each d n.0)) (λ x h.
    fits_then (list_all p) (list_all p) (all_from f (i + 1) ds) _ (fits_all p f each (i + 1) ds n.1) (λ later g. and_true (p x) (list_all p later) h g))

fits_list : {T : Type 0} (p : T → Bool) (f : Data → Shaped T) → EachFits p f → EachFits (list_all p) (list_in f)
fits_list p f each null n = tt
fits_list p f each (boolean b) n = tt
fits_list p f each (number m) n = tt
fits_list p f each (string s) n = tt
fits_list p f each (array ds) n = fits_all p f each 0 ds n
fits_list p f each (object ms) n = tt

fits_of : {T : Type 0} (p : T → Bool) (count : ℕ) (d : Data) (s : Shaped T) → IfFits p s → IfFits p (of_list count d s)
fits_of p count d s h = by (is_list_of count d)
  where
    by : (b : Bool) → IfFits p (cond b s (Differs []))
    by true = h
    by false = tt

-- ---- paths and numbers

path_fits : EachFits has_text path_in
path_fits d n = by (as_str d)
  where
    of_path : (text : List ℕ) (o : Option Path) → PathIs text o → IfFits has_text (fits o)
    of_path text None h = tt
    of_path text (Some path) h = h.written

    by : (o : Option (List ℕ)) → IfFits has_text (fits (option_and_then path_from o))
    by None = tt
    by (Some text) = of_path text (path_from text) (path_from_is text)

count_fits : EachFits is_u32 count_in
count_fits d n = by (option_and_then as_u64 (as_number d))
  where
    small : (k : ℕ) (b : Bool) → nat_lt k (2 ^ 32) ≡ b → IfFits is_u32 (fits (cond b (Some k) None))
    small k true e = e
    small k false e = tt

    by : (o : Option ℕ) → IfFits is_u32 (fits (option_and_then within_u32 o))
    by None = tt
    by (Some k) = small k (nat_lt k (2 ^ 32)) refl

within_fits : (low high : ℕ) → EachFits (is_from_to low high) (count_within low high)
within_fits low high d n = fits_then is_u32 (is_from_to low high) (count_in d) _ (count_fits d n) (λ k h. by k (is_from_to low high k) refl)
  where
    by : (k : ℕ) (b : Bool) → is_from_to low high k ≡ b → IfFits (is_from_to low high) (cond b (Fits k) (Differs []))
    by k true e = e
    by k false e = tt

integer_fits : EachFits is_i64 integer_in
integer_fits null n = tt
integer_fits (boolean b) n = tt
integer_fits (number m) n = by (as_i64 m) n
  where
    by : (o : Option ℤ) → IsNarrow o → IfFits is_i64 (fits o)
    by None h = tt
    by (Some z) h = h
integer_fits (string s) n = tt
integer_fits (array ds) n = tt
integer_fits (object ms) n = tt

held_fits : EachFits is_written_held held_in
held_fits null n = tt
held_fits (boolean b) n = tt
held_fits (number m) n = by (as_i64 m) n
  where
    by : (o : Option ℤ) → IsNarrow o → IfFits is_written_held (fits (held_of o None))
    by None h = tt
    by (Some z) h = h
held_fits (string s) n = refl
held_fits (array ds) n = tt
held_fits (object ms) n = tt

-- ---- parts

choice_fits : EachFits is_written_choice choice_in
choice_fits d n =
    fits_of is_written_choice 2 d _
    (fits_then has_text is_written_choice (item_at path_in 0 d) _ (fits_item has_text path_in path_fits 0 d n) (λ path p.
    fits_then is_u32 is_written_choice (item_at count_in 1 d) _ (fits_item is_u32 count_in count_fits 1 d n) (λ member m.
    and_true (has_text path) (is_u32 member) p m)))

span_fits : EachFits is_written_span span_in
span_fits d n =
    fits_of is_written_span 3 d _
    (fits_then has_text is_written_span (item_at path_in 0 d) _ (fits_item has_text path_in path_fits 0 d n) (λ path p.
    fits_then is_u32 is_written_span (item_at count_in 1 d) _ (fits_item is_u32 count_in count_fits 1 d n) (λ start s.
    fits_then is_u32 is_written_span (item_at count_in 2 d) _ (fits_item is_u32 count_in count_fits 2 d n) (λ end e.
    and_true (has_text path) (is_u32 start && is_u32 end) p (and_true (is_u32 start) (is_u32 end) s e)))))

sample_fits : EachFits is_written_sample sample_in
sample_fits d n =
    fits_of is_written_sample 3 d _
    (fits_then is_i64 is_written_sample (item_at integer_in 0 d) _ (fits_item is_i64 integer_in integer_fits 0 d n) (λ lane l.
    fits_then is_i64 is_written_sample (item_at integer_in 1 d) _ (fits_item is_i64 integer_in integer_fits 1 d n) (λ position p.
    fits_then is_i64 is_written_sample (item_at integer_in 2 d) _ (fits_item is_i64 integer_in integer_fits 2 d n) (λ speed s.
    and_true (is_i64 lane) (is_i64 position && is_i64 speed) l (and_true (is_i64 position) (is_i64 speed) p s)))))

trace_fits : EachFits is_written_trace trace_in
trace_fits d n =
    fits_of is_written_trace 2 d _
    (fits_then has_text is_written_trace (item_at path_in 0 d) _ (fits_item has_text path_in path_fits 0 d n) (λ path p.
    fits_then (list_all is_written_sample) is_written_trace (item_at (list_in sample_in) 1 d) _ (fits_item (list_all is_written_sample) (list_in sample_in) (fits_list is_written_sample sample_in sample_fits) 1 d n) (λ samples s.
    and_true (has_text path) (list_all is_written_sample samples) p s)))

value_fits : EachFits is_written_value value_in
value_fits d n =
    fits_of is_written_value 2 d _
    (fits_then has_text is_written_value (item_at path_in 0 d) _ (fits_item has_text path_in path_fits 0 d n) (λ path p.
    fits_then is_written_held is_written_value (item_at held_in 1 d) _ (fits_item is_written_held held_in held_fits 1 d n) (λ held h.
    and_true (has_text path) (is_written_held held) p h)))

-- ---- runs

tick_fits : (form : ℕ) → EachFits (is_from_to 10 1000) (tick_of form)
tick_fits form d n = by (nat_eq form 2)
  where
    by : (b : Bool) → IfFits (is_from_to 10 1000) (cond b (key_at tick_in (codes "tick") d) (Fits 100))
    by true = fits_key (is_from_to 10 1000) tick_in (within_fits 10 1000) (codes "tick") d n
    by false = refl

fits_without : (o : Option (List ℕ)) (run : Run) → is_written_run run ≡ true → IfFits is_written_run (without o run)
fits_without None run h = h
fits_without (Some key) run h = tt

with_fits : (form : ℕ) (choices : List Choice) (end : ℕ) → list_all is_written_choice choices ≡ true → is_u32 end ≡ true → EachFits is_written_run (run_with form choices end)
with_fits form choices end c e d n =
    fits_then (list_all is_written_span) is_written_run (key_at (list_in span_in) (codes "phases") d) _
    (fits_key (list_all is_written_span) (list_in span_in) (fits_list is_written_span span_in span_fits) (codes "phases") d n) (λ phases p.
    fits_then (is_from_to 10 1000) is_written_run (tick_of form d) _ (tick_fits form d n) (λ tick t.
    fits_then (list_all is_written_trace) is_written_run (key_at (list_in trace_in) (codes "traces") d) _
    (fits_key (list_all is_written_trace) (list_in trace_in) (fits_list is_written_trace trace_in trace_fits) (codes "traces") d n) (λ traces m.
    fits_then (list_all is_written_value) is_written_run (key_at (list_in value_in) (codes "values") d) _
    (fits_key (list_all is_written_value) (list_in value_in) (fits_list is_written_value value_in value_fits) (codes "values") d n) (λ values v.
    fits_without (extra_key form d) _
    (and_true (list_all is_written_choice choices) _ c (and_true (is_u32 end) _ e (and_true (list_all is_written_span phases) _ p (and_true (is_from_to 10 1000 tick) _ t
    (and_true (list_all is_written_trace traces) (list_all is_written_value values) m v)))))))))

run_fits : (form : ℕ) → EachFits is_written_run (run_in form)
run_fits form d n =
    fits_then (list_all is_written_choice) is_written_run (key_at (list_in choice_in) (codes "choices") d) _
    (fits_key (list_all is_written_choice) (list_in choice_in) (fits_list is_written_choice choice_in choice_fits) (codes "choices") d n) (λ choices c.
    fits_then is_u32 is_written_run (key_at count_in (codes "end") d) _ (fits_key is_u32 count_in count_fits (codes "end") d n) (λ end e.
    fits_then (is_from_to form form) is_written_run (key_at (form_in form) (codes "form") d) _
    (fits_key (is_from_to form form) (form_in form) (within_fits form form) (codes "form") d n) (λ told f. with_fits form choices end c e d n)))

-- each run that a text is read as is one whose text can be read back
pub read_is_written : (bytes : List ℕ) (run : Run) → option_map run_from (read bytes) ≡ Some (Fits run) → is_written_run run ≡ true
read_is_written bytes run e = by (read bytes) refl e
  where
    by : (o : Option Data) → read bytes ≡ o → option_map run_from o ≡ Some (Fits run) → is_written_run run ≡ true
    by None r h = cc
    by (Some d) r h = let same : run_from d ≡ Fits run = cc in subst (IfFits is_written_run) same (run_fits (form_of d) d (read_narrow bytes d r))

pub migrated_back : (bytes : List ℕ) (run : Run) → option_map run_from (read bytes) ≡ Some (Fits run) → option_map run_from (read (run_text run)) ≡ Some (Fits run)
migrated_back bytes run e = text_back run (read_is_written bytes run e)
