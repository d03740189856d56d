-- What is read is a recording: each trace has its samples, and no two are of one path.
use Rattle.std.proofs.Common.{◌≡◌, ◌∙◌, refl, sym, ap, ap₂, subst, ℕ, suc, ◌+◌, List, [], ◌∷◌, ◌++◌, Bool, true, false, not, ◌&&◌, ◌||◌, cond, Option, Some, None, length, map, add-one}
use Rattle.std.specs.Prelude.{nat_eq, codes}
use Rattle.std.specs.List.{list_any, list_all}
use Rattle.std.specs.Option.{option_map_or}
use Rattle.std.specs.Fmt.{decimal}
use Rattle.serde_json.specs.Data.{Data, Items, no_items, item}
use Rattle.serde_json.specs.Find.{as_array, at, get}
use Rattle.osc_base.specs.declared.path.Path.{Path}
use Rattle.osc_base.specs.declared.sample.Sample.{Sample}
use Rattle.osc_base.specs.Paths.{same_path}
use Rattle.run_texts.specs.composition.declared.run.Trace.{Trace}
use Rattle.run_texts.specs.composition.Invariants.{are_distinct}
use Rattle.run_texts.specs.RunShape.{Shaped, Fits, Differs, shaped_then, inside, fits, if_there, item_at, key_at, all_from, list_in, items_count, is_list_of, of_list, path_in, count_in, sample_in, form_in}
use Rattle.asked_forms.specs.declared.traces.Traces.{Traces}
use Rattle.asked_forms.specs.Recordings.{are_counted}
use Rattle.trace_texts.specs.TraceShape.{has_path, fresh_path, samples_in, trace_after, traces_after, traces_in, extra_key, without, traces_from, AreTraces}
use Rattle.trace_texts.proofs.Seen.{any_more}

-- ---- what fits, and its parts

then_fits : {A B : Type 0} (P : Type 0) (s : Shaped A) (f : A → Shaped B) (x : B) → shaped_then s f ≡ Fits x → ((a : A) → s ≡ Fits a → f a ≡ Fits x → P) → P
then_fits P (Fits a) f x e k = k a refl e
then_fits P (Differs p) f x e k = cc

inside_fits : {A : Type 0} (step : List ℕ) (s : Shaped A) (x : A) → inside step s ≡ Fits x → s ≡ Fits x
inside_fits step (Fits a) x e = e
inside_fits step (Differs p) x e = cc

there_fits : {A : Type 0} (P : Type 0) (f : Data → Shaped A) (o : Option Data) (x : A) → if_there f o ≡ Fits x → ((d : Data) → f d ≡ Fits x → P) → P
there_fits P f None x e k = cc
there_fits P f (Some d) x e k = k d e

list_fits : {A : Type 0} (P : Type 0) (n : ℕ) (d : Data) (s : Shaped A) (x : A) → of_list n d s ≡ Fits x → (is_list_of n d ≡ true → s ≡ Fits x → P) → P
list_fits {A} P n d s x = by (is_list_of n d)
  where
    by : (b : Bool) → cond b s (Differs []) ≡ Fits x → (b ≡ true → s ≡ Fits x → P) → P
    by true e k = k refl e
    by false e k = cc

array_fits : {A : Type 0} (P : Type 0) (o : Option Items) (f : Items → Shaped A) (x : A) → shaped_then (fits o) f ≡ Fits x → ((ds : Items) → o ≡ Some ds → f ds ≡ Fits x → P) → P
array_fits P None f x e k = cc
array_fits P (Some ds) f x e k = k ds refl e

-- ---- samples

as_many : {A : Type 0} (f : Data → Shaped A) (n : ℕ) (ds : Items) (xs : List A) → all_from f n ds ≡ Fits xs → items_count ds ≡ length xs
as_many {A} f n no_items xs e = by xs e
  where
    by : (ys : List A) → Fits [] ≡ Fits ys → 0 ≡ length ys
    by [] h = refl
    by (y ∷ ys) h = cc
as_many {A} f n (item d ds) xs e =
    then_fits (suc (items_count ds) ≡ length xs) (inside (decimal n) (f d)) (λ x. shaped_then (all_from f (n + 1) ds) (λ later. Fits (x ∷ later))) xs e
    (λ x _ g. then_fits (suc (items_count ds) ≡ length xs) (all_from f (n + 1) ds) (λ later. Fits (x ∷ later)) xs g
    (λ later h i. ap suc (as_many f (n + 1) ds later h) ∙ same_length x later xs i))
  where
    same_length : (x : A) (later ys : List A) → Fits (x ∷ later) ≡ Fits ys → suc (length later) ≡ length ys
    same_length x later [] h = cc
    same_length x later (y ∷ ys) h = cc

-- a list of so many samples has so many
samples_counted : (count : ℕ) (d : Data) (ss : List Sample) → samples_in count d ≡ Fits ss → nat_eq (length ss) count ≡ true
samples_counted count d ss e =
    list_fits (nat_eq (length ss) count ≡ true) count d (list_in sample_in d) ss e
    (λ so f. array_fits (nat_eq (length ss) count ≡ true) (as_array d) (all_from sample_in 0) ss f
    (λ ds is g. ap (λ n. nat_eq n count) (sym (as_many sample_in 0 ds ss g)) ∙ sym (ap (λ o. option_map_or (λ items. nat_eq (items_count items) count) o false) is) ∙ so))

-- ---- traces

-- a path of which no trace before is
fresh : (before : List Trace) (d : Data) (path : Path) → fresh_path before d ≡ Fits path → has_path before path ≡ false
fresh before d path e =
    then_fits (has_path before path ≡ false) (path_in d) (λ p. cond (has_path before p) (Differs []) (Fits p)) path e (λ p _ f. by p (has_path before p) refl f)
  where
    same : (p q : Path) → Fits p ≡ Fits q → p ≡ q
    same p q h = cc

    by : (p : Path) (b : Bool) → has_path before p ≡ b → cond b (Differs []) (Fits p) ≡ Fits path → has_path before path ≡ false
    by p true h f = cc
    by p false h f = ap (has_path before) (sym (same p path f)) ∙ h

-- a trace that is read has so many samples, and no trace before is of its path
trace_read : (P : Type 0) (count : ℕ) (before : List Trace) (d : Data) (t : Trace) → trace_after count before d ≡ Fits t
    → (nat_eq (length t.samples) count ≡ true → has_path before t.path ≡ false → P) → P
trace_read P count before d t e k =
    list_fits P 2 d (shaped_then (item_at (fresh_path before) 0 d) (λ path. shaped_then (item_at (samples_in count) 1 d) (λ samples. Fits (record { path = path; samples = samples })))) t e
    (λ _ f. then_fits P (item_at (fresh_path before) 0 d) (λ path. shaped_then (item_at (samples_in count) 1 d) (λ samples. Fits (record { path = path; samples = samples }))) t f
    (λ path p g. then_fits P (item_at (samples_in count) 1 d) (λ samples. Fits (record { path = path; samples = samples })) t g
    (λ samples s h.
    there_fits P (fresh_path before) (at 0 d) path (inside_fits (decimal 0) (if_there (fresh_path before) (at 0 d)) path p)
    (λ first i. there_fits P (samples_in count) (at 1 d) samples (inside_fits (decimal 1) (if_there (samples_in count) (at 1 d)) samples s)
    (λ second j. k
    (ap (λ (x : Trace). nat_eq (length x.samples) count) (sym (same (record { path = path; samples = samples }) t h)) ∙ samples_counted count second samples j)
    (ap (λ (x : Trace). has_path before x.path) (sym (same (record { path = path; samples = samples }) t h)) ∙ fresh before first path i))))))
  where
    same : (x y : Trace) → Fits x ≡ Fits y → x ≡ y
    same x y h = cc

all_more : {A : Type 0} (test : A → Bool) (xs : List A) (x : A) → list_all test xs ≡ true → test x ≡ true → list_all test (xs ++ x ∷ []) ≡ true
all_more test [] x e f = rw f refl
all_more test (y ∷ ys) x e f = ap₂ (λ a b. a && b) (first (test y) (list_all test ys) e) (all_more test ys x (second (test y) (list_all test ys) e) f)
  where
    first : (a b : Bool) → a && b ≡ true → a ≡ true
    first true b h = refl
    first false b h = h

    second : (a b : Bool) → a && b ≡ true → b ≡ true
    second true b h = h
    second false b h = cc

abbrev paths_of : List Trace → List Path
paths_of ts = map (λ (t : Trace). t.path) ts

distinct_more : (ts : List Trace) (t : Trace) → are_distinct (paths_of ts) ≡ true → has_path ts t.path ≡ false → are_distinct (paths_of (ts ++ t ∷ [])) ≡ true
distinct_more [] t e f = refl
distinct_more (x ∷ xs) t e f =
    ap₂ (λ a b. not a && b) (any_paths xs ∙ none (list_any (same_path x.path) (paths_of xs)) (are_distinct (paths_of xs)) (same_path x.path t.path) (has_path xs t.path) e f)
    (distinct_more xs t (later (list_any (same_path x.path) (paths_of xs)) (are_distinct (paths_of xs)) e) (others (same_path x.path t.path) (has_path xs t.path) f))
  where
    any_paths : (ys : List Trace) → list_any (same_path x.path) (paths_of (ys ++ t ∷ [])) ≡ list_any (same_path x.path) (paths_of ys) || same_path x.path t.path
    any_paths [] = by (same_path x.path t.path)
      where
        by : (b : Bool) → b || false ≡ b
        by true = refl
        by false = refl
    any_paths (y ∷ ys) = ap (λ b. same_path x.path y.path || b) (any_paths ys) ∙ by (same_path x.path y.path) (list_any (same_path x.path) (paths_of ys)) (same_path x.path t.path)
      where
        by : (a b c : Bool) → a || (b || c) ≡ (a || b) || c
        by true b c = refl
        by false b c = refl

    none : (a b c d : Bool) → not a && b ≡ true → c || d ≡ false → a || c ≡ false
    none true b c d g h = cc
    none false b true d g h = cc
    none false b false d g h = refl

    later : (a b : Bool) → not a && b ≡ true → b ≡ true
    later true b g = cc
    later false b g = g

    others : (c d : Bool) → c || d ≡ false → d ≡ false
    others true d h = cc
    others false d h = h

abbrev is_counted : ℕ → Trace → Bool
is_counted count t = nat_eq (length t.samples) count

-- what traces are, which are read behind sound ones
pub record Sound (count : ℕ) (ts : List Trace) : Type 0 where
  pub counted : list_all (is_counted count) ts ≡ true
  pub distinct : are_distinct (paths_of ts) ≡ true

traces_read : (count : ℕ) (before : List Trace) (ds : Items) (ts : List Trace) → Sound count before → traces_after count before ds ≡ Fits ts → Sound count ts
traces_read count before no_items ts sound e = subst (Sound count) (same before ts e) sound
  where
    same : (xs ys : List Trace) → Fits xs ≡ Fits ys → xs ≡ ys
    same xs ys h = cc
traces_read count before (item d ds) ts sound e =
    then_fits (Sound count ts) (inside (decimal (length before)) (trace_after count before d)) (λ t. traces_after count (before ++ t ∷ []) ds) ts e
    (λ t f g. trace_read (Sound count ts) count before d t (inside_fits (decimal (length before)) (trace_after count before d) t f)
    (λ many new. traces_read count (before ++ t ∷ []) ds ts
    (record { counted = all_more (is_counted count) before t sound.counted many; distinct = distinct_more before t sound.distinct new }) g))

-- ---- recordings

pub are_traces : (d : Data) (t : Traces) → traces_from d ≡ Fits t → AreTraces t
are_traces d t e =
    then_fits (AreTraces t) (key_at count_in (codes "end") d) (λ end. with_end end) t e
    (λ end _ f. then_fits (AreTraces t) (key_at (form_in 1) (codes "form") d) (λ told. with_form end) t f
    (λ told _ g. then_fits (AreTraces t) (key_at (traces_in (end + 1)) (codes "traces") d) (λ ts. without (extra_key d) (record { end = end; traces = ts })) t g
    (λ ts s h. there_fits (AreTraces t) (traces_in (end + 1)) (get (codes "traces") d) ts (inside_fits (codes "traces") (if_there (traces_in (end + 1)) (get (codes "traces") d)) ts s)
    (λ list i. array_fits (AreTraces t) (as_array list) (traces_after (end + 1) []) ts i
    (λ ds _ j. made end ts (traces_read (end + 1) [] ds ts (record { counted = refl; distinct = refl }) j) (extra_key d) h)))))
  where
    with_form : ℕ → Shaped Traces
    with_form end = shaped_then (key_at (traces_in (end + 1)) (codes "traces") d) (λ ts. without (extra_key d) (record { end = end; traces = ts }))

    with_end : ℕ → Shaped Traces
    with_end end = shaped_then (key_at (form_in 1) (codes "form") d) (λ told. with_form end)

    same : (x y : Traces) → Fits x ≡ Fits y → x ≡ y
    same x y h = cc

    made : (end : ℕ) (ts : List Trace) → Sound (end + 1) ts → (o : Option (List ℕ)) → without o (record { end = end; traces = ts }) ≡ Fits t → AreTraces t
    made end ts sound None h = subst AreTraces (same (record { end = end; traces = ts }) t h) (record { counted = sound.counted; distinct = sound.distinct })
    made end ts sound (Some key) h = cc
