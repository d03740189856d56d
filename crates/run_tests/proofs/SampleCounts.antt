-- A run that a text is read as has no more samples of a vehicle than the text has bytes.
use Rattle.std.proofs.Common.{◌≡◌, refl, subst, arith, ℕ, ◌+◌, ◌≤◌, Bool, true, false, cond, List, [], ◌∷◌, length, Option, Some, None, codes}
use Rattle.std.specs.Prelude.{option_map, ⊤}
use Rattle.std.specs.Fmt.{decimal}
use Rattle.serde_json.specs.Data.{Data, null, boolean, number, string, array, object, Items, no_items, item}
use Rattle.serde_json.specs.Find.{get, at}
use Rattle.serde_json.specs.Read.{read}
use Rattle.run_check.specs.composition.declared.run.Choice.{Choice}
use Rattle.run_check.specs.composition.declared.run.Trace.{Trace}
use Rattle.run_check.specs.composition.declared.run.Run.{Run}
use Rattle.run_texts.specs.RunShape.{Shaped, Fits, Differs, shaped_then, inside, if_there, item_at, key_at, all_from, list_in, is_list_of, of_list, path_in, count_in, choice_in, span_in, sample_in, trace_in, value_in, form_in, form_of, tick_of, extra_key, without, run_with, run_in, run_from}
use Rattle.run_tests.proofs.DataWeights.{weight, items_weight, some_weight, Within, get_within, at_within, read_within}

-- ---- what is said of what fits

abbrev IfFits : {T : Type 0} → (T → Type 0) → Shaped T → Type 0
IfFits Says (Fits x) = Says x
IfFits Says (Differs pointer) = ⊤

fits_then : {A B : Type 0} (P : A → Type 0) (Q : B → Type 0) (s : Shaped A) (f : A → Shaped B) → IfFits P s → ((x : A) → P x → IfFits Q (f x)) → IfFits Q (shaped_then s f)
fits_then P Q (Fits x) f h g = g x h
fits_then P Q (Differs pointer) f h g = tt

-- of what isn't looked at nothing is said
fits_after : {A B : Type 0} (Q : B → Type 0) (s : Shaped A) (f : A → Shaped B) → ((x : A) → IfFits Q (f x)) → IfFits Q (shaped_then s f)
fits_after Q (Fits x) f g = g x
fits_after Q (Differs pointer) f g = tt

fits_inside : {T : Type 0} (P : T → Type 0) (step : List ℕ) (s : Shaped T) → IfFits P s → IfFits P (inside step s)
fits_inside P step (Fits x) h = h
fits_inside P step (Differs pointer) h = tt

fits_there : {T : Type 0} (P : T → Type 0) (f : Data → Shaped T) (n : ℕ) → ((d : Data) → weight d ≤ n → IfFits P (f d)) → (o : Option Data) → Within n o → IfFits P (if_there f o)
fits_there P f n each None h = tt
fits_there P f n each (Some d) h = each d h

fits_of : {T : Type 0} (P : T → Type 0) (count : ℕ) (d : Data) (s : Shaped T) → IfFits P s → IfFits P (of_list count d s)
fits_of P count d s h = by (is_list_of count d)
  where
    by : (b : Bool) → IfFits P (cond b s (Differs []))
    by true = h
    by false = tt

-- ---- samples

abbrev IsWithin : {T : Type 0} → ℕ → List T → Type 0
IsWithin n xs = length xs ≤ n

few_items : {T : Type 0} (f : Data → Shaped T) (i : ℕ) (ds : Items) → IfFits (IsWithin (items_weight ds)) (all_from f i ds)
few_items f i no_items = omega arith
few_items f i (item d ds) =
    fits_after (IsWithin (items_weight (item d ds))) (inside (decimal i) (f d)) _ (λ x.
    fits_then (IsWithin (items_weight ds)) (IsWithin (items_weight (item d ds))) (all_from f (i + 1) ds) _ (few_items f (i + 1) ds) (λ later h. omega (arith, h, some_weight d)))

few_more : {T : Type 0} (n m : ℕ) (s : Shaped (List T)) → IfFits (IsWithin n) s → n ≤ m → IfFits (IsWithin m) s
few_more n m (Fits xs) h less = omega (arith, h, less)
few_more n m (Differs pointer) h less = tt

few_in : {T : Type 0} (f : Data → Shaped T) (n : ℕ) (d : Data) → weight d ≤ n → IfFits (IsWithin n) (list_in f d)
few_in f n null less = tt
few_in f n (boolean b) less = tt
few_in f n (number m) less = tt
few_in f n (string s) less = tt
few_in f n (array ds) less = few_more (items_weight ds) n (all_from f 0 ds) (few_items f 0 ds) (omega (arith, less))
few_in f n (object ms) less = tt

-- ---- traces

abbrev pub HasFew : ℕ → Trace → Type 0
HasFew n t = length t.samples ≤ n

-- each vehicle has so many samples at most
abbrev pub HaveFew : ℕ → List Trace → Type 0
HaveFew n [] = ⊤
HaveFew n (t ∷ later) = HasFew n t × HaveFew n later

few_after : (n m : ℕ) (o : Option Data) → Within n o → n ≤ m → Within m o
few_after n m None h less = tt
few_after n m (Some d) h less = omega (arith, h, less)

trace_few : (n : ℕ) (d : Data) → weight d ≤ n → IfFits (HasFew n) (trace_in d)
trace_few n d less =
    fits_of (HasFew n) 2 d _
    (fits_after (HasFew n) (item_at path_in 0 d) _ (λ path.
    fits_then (IsWithin n) (HasFew n) (item_at (list_in sample_in) 1 d) _
    (fits_inside (IsWithin n) (decimal 1) (if_there (list_in sample_in) (at 1 d))
    (fits_there (IsWithin n) (list_in sample_in) n (few_in sample_in n) (at 1 d) (few_after (weight d) n (at 1 d) (at_within 1 d) less))) (λ samples h. h)))

all_few : (n i : ℕ) (ds : Items) → items_weight ds ≤ n → IfFits (HaveFew n) (all_from trace_in i ds)
all_few n i no_items less = tt
all_few n i (item d ds) less =
    fits_then (HasFew n) (HaveFew n) (inside (decimal i) (trace_in d)) _ (fits_inside (HasFew n) (decimal i) (trace_in d) (trace_few n d (omega (arith, less)))) (λ x h.
    fits_then (HaveFew n) (HaveFew n) (all_from trace_in (i + 1) ds) _ (all_few n (i + 1) ds (omega (arith, less))) (λ later g. (h, g)))

traces_few : (n : ℕ) (d : Data) → weight d ≤ n → IfFits (HaveFew n) (list_in trace_in d)
traces_few n null less = tt
traces_few n (boolean b) less = tt
traces_few n (number m) less = tt
traces_few n (string s) less = tt
traces_few n (array ds) less = all_few n 0 ds (omega (arith, less))
traces_few n (object ms) less = tt

-- ---- runs

abbrev RunHasFew : ℕ → Run → Type 0
RunHasFew n run = HaveFew n run.traces

few_without : (n : ℕ) (o : Option (List ℕ)) (run : Run) → HaveFew n run.traces → IfFits (RunHasFew n) (without o run)
few_without n None run h = h
few_without n (Some key) run h = tt

with_few : (n form : ℕ) (choices : List Choice) (end : ℕ) (d : Data) → weight d ≤ n → IfFits (RunHasFew n) (run_with form choices end d)
with_few n form choices end d less =
    fits_after (RunHasFew n) (key_at (list_in span_in) (codes "phases") d) _ (λ phases.
    fits_after (RunHasFew n) (tick_of form d) _ (λ tick.
    fits_then (HaveFew n) (RunHasFew n) (key_at (list_in trace_in) (codes "traces") d) _
    (fits_inside (HaveFew n) (codes "traces") (if_there (list_in trace_in) (get (codes "traces") d))
    (fits_there (HaveFew n) (list_in trace_in) n (traces_few n) (get (codes "traces") d) (few_after (weight d) n (get (codes "traces") d) (get_within (codes "traces") d) less))) (λ traces h.
    fits_after (RunHasFew n) (key_at (list_in value_in) (codes "values") d) _ (λ values.
    few_without n (extra_key form d) _ h))))

run_few : (n form : ℕ) (d : Data) → weight d ≤ n → IfFits (RunHasFew n) (run_in form d)
run_few n form d less =
    fits_after (RunHasFew n) (key_at (list_in choice_in) (codes "choices") d) _ (λ choices.
    fits_after (RunHasFew n) (key_at count_in (codes "end") d) _ (λ end.
    fits_after (RunHasFew n) (key_at (form_in form) (codes "form") d) _ (λ told. with_few n form choices end d less)))

-- each vehicle of a run that a text is read as has one sample more than the text has bytes at most
pub read_few : (bytes : List ℕ) (run : Run) → option_map run_from (read bytes) ≡ Some (Fits run) → HaveFew (length bytes + 1) run.traces
read_few bytes run e = by (read bytes) refl e
  where
    by : (o : Option Data) → read bytes ≡ o → option_map run_from o ≡ Some (Fits run) → HaveFew (length bytes + 1) run.traces
    by None r h = cc
    by (Some d) r h =
        let same : run_from d ≡ Fits run = cc in
        subst (IfFits (RunHasFew (length bytes + 1))) same (run_few (length bytes + 1) (form_of d) d (read_within bytes d r))
