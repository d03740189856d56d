-- The JSON text of a run's data is read as that data.
use Rattle.std.proofs.Common.{◌≡◌, ◌∙◌, refl, sym, ap, true≢false, arith, ℕ, suc, ◌^◌, ◌<◌, ◌≤◌, ℤ, pos, negsuc, Bool, true, false, ◌&&◌, List, [], ◌∷◌, Option, Some, map, codes, append-nil}
use Rattle.std.specs.Prelude.{max, nat_lt, nat_le, option_map, option_and_then, decimal}
use Rattle.std.specs.List.{list_all}
use Rattle.json.specs.Json as json
use Rattle.json.specs.Tree.{json_tokens, depth, items_depth, HasNumbers, ItemsHaveNumbers}
use Rattle.json.proofs.Printed.Decimals.{IsNumber-decimal, IsNumber-signed_decimal}
use Rattle.json.specs.Lex.{tokens}
use Rattle.json.specs.Print.{print}
use Rattle.json.proofs.Printed.Tokens.{tokens-print}
use Rattle.json.proofs.Printed.Trees.{ArePrintable-json_tokens, value-json_tokens}
use Rattle.serde_json.specs.Data.{Data, number, string, array, object, Items, no_items, item, no_members, member, put, unsigned, negative}
use Rattle.serde_json.specs.Read.{max_depth, read, of_json, of_items}
use Rattle.serde_json.specs.View.{items_of}
use Rattle.serde_json.specs.Written.{outline, items_outline, compact_text}
use Rattle.serde_json.proofs.Numbers.{number_of-decimal, number_of-negative}
use Rattle.serde_json.proofs.Texts.{print-outline}
use Rattle.osc_base.specs.declared.sample.Sample.{Sample}
use Rattle.run_check.specs.composition.declared.run.Choice.{Choice}
use Rattle.run_check.specs.composition.declared.run.Span.{Span}
use Rattle.run_check.specs.composition.declared.run.Trace.{Trace}
use Rattle.run_check.specs.composition.declared.run.Value.{Value}
use Rattle.run_check.specs.composition.declared.run.Run.{Run}
use Rattle.run_check.specs.composition.declared.run.Held.{Held}
use Rattle.run_check.specs.composition.declared.run.Held.TheVariants.{Number, Chars}
use Rattle.run_check.specs.composition.Invariants.{is_from_to}
use Rattle.run_check.specs.RunText.{path_data, count_data, integer_data, choice_data, span_data, sample_data, trace_data, held_data, value_data, run_data}
use Rattle.run_tests.specs.WrittenRuns.{is_u32, is_i64, has_text, is_written_choice, is_written_span, is_written_sample, is_written_trace, is_written_held, is_written_value, is_written_run}

pub both : (a b : Bool) → a && b ≡ true → (a ≡ true) × (b ≡ true)
both true b h = (refl, h)
both false b h = absurd (true≢false (sym h))

-- the length of a tick is a number that a `u32` holds
pub short_tick : (n : ℕ) → is_from_to 10 1000 n ≡ true → is_u32 n ≡ true
short_tick n h = let most = (both (nat_le 10 n) (nat_le n 1000) h).1 in grind (arith, most)

less : (a b : ℕ) → nat_lt a b ≡ true → a < b
less a b h = grind (arith, h)

-- data whose JSON can be written and nests no deeper than k, and is the JSON's data
record Back (k : ℕ) (d : Data) : Type 0 where
  numbers : HasNumbers (outline d)
  shallow : depth (outline d) ≤ k
  same : of_json (outline d) ≡ Some d

-- the same of items
record BackItems (k : ℕ) (ds : Items) : Type 0 where
  numbers : ItemsHaveNumbers (items_outline ds)
  shallow : items_depth (items_outline ds) ≤ k
  same : of_items (items_outline ds) ≡ Some ds

max_within : (a b k : ℕ) → a ≤ k → b ≤ k → max a b ≤ k
max_within a b k p q = grind (arith, p, q)

none_back : (k : ℕ) → BackItems k no_items
none_back k = record { numbers = tt; shallow = omega arith; same = refl }

more_back : (k : ℕ) (d : Data) (ds : Items) → Back k d → BackItems k ds → BackItems k (item d ds)
more_back k d ds a b = record {
  numbers = (a.numbers, b.numbers);
  shallow = max_within (depth (outline d)) (items_depth (items_outline ds)) k a.shallow b.shallow;
  same = λ i. option_and_then (λ x. option_map (item x) (b.same i)) (a.same i);
}

array_back : (k : ℕ) (ds : Items) → BackItems k ds → Back (suc k) (array ds)
array_back k ds b = record { numbers = b.numbers; shallow = omega (arith, b.shallow); same = ap (option_map array) b.same }

list_back : {T : Type 0} (k : ℕ) (data_of : T → Data) (test : T → Bool) → ((x : T) → test x ≡ true → Back k (data_of x)) → (xs : List T) → list_all test xs ≡ true → BackItems k (items_of (map data_of xs))
list_back k data_of test each [] h = none_back k
list_back k data_of test each (x ∷ xs) h =
    let parts = both (test x) (list_all test xs) h in
    more_back k (data_of x) (items_of (map data_of xs)) (each x parts.0) (list_back k data_of test each xs parts.1)

-- ---- numbers and texts

string_back : (k : ℕ) (s : List ℕ) → Back k (string s)
string_back k s = record { numbers = tt; shallow = omega arith; same = refl }

unsigned_back : (k n : ℕ) → n < 2 ^ 64 → Back k (number (unsigned n))
unsigned_back k n h = record { numbers = IsNumber-decimal n h; shallow = omega arith; same = ap (option_map number) (number_of-decimal n h) }

count_back : (k n : ℕ) → is_u32 n ≡ true → Back k (count_data n)
count_back k n h = let small : n < 2 ^ 32 = less n (2 ^ 32) h in unsigned_back k n (omega (arith, small))

integer_back : (k : ℕ) (z : ℤ) → is_i64 z ≡ true → Back k (integer_data z)
integer_back k (pos n) h = let small : n < 2 ^ 63 = less n (2 ^ 63) h in unsigned_back k n (omega (arith, small))
integer_back k (negsuc n) h =
    let small : n < 2 ^ 63 = less n (2 ^ 63) h in
    record { numbers = IsNumber-signed_decimal (negsuc n) small; shallow = omega arith; same = ap (option_map number) (number_of-negative n small) }

-- ---- parts

two_back : (k : ℕ) (a b : Data) → Back k a → Back k b → Back (suc k) (array (item a (item b no_items)))
two_back k a b p q = array_back k (item a (item b no_items)) (more_back k a (item b no_items) p (more_back k b no_items q (none_back k)))

three_back : (k : ℕ) (a b c : Data) → Back k a → Back k b → Back k c → Back (suc k) (array (item a (item b (item c no_items))))
three_back k a b c p q r = array_back k (item a (item b (item c no_items))) (more_back k a (item b (item c no_items)) p (more_back k b (item c no_items) q (more_back k c no_items r (none_back k))))

choice_back : (c : Choice) → is_written_choice c ≡ true → Back 3 (choice_data c)
choice_back c h = two_back 2 (path_data c.path) (count_data c.member) (string_back 2 _) (count_back 2 c.member (both (has_text c.path) (is_u32 c.member) h).1)

span_back : (s : Span) → is_written_span s ≡ true → Back 3 (span_data s)
span_back s h =
    let ends = both (is_u32 s.start) (is_u32 s.end) (both (has_text s.path) (is_u32 s.start && is_u32 s.end) h).1 in
    three_back 2 (path_data s.path) (count_data s.start) (count_data s.end) (string_back 2 _) (count_back 2 s.start ends.0) (count_back 2 s.end ends.1)

sample_back : (s : Sample) → is_written_sample s ≡ true → Back 1 (sample_data s)
sample_back s h =
    let parts = both (is_i64 s.lane) (is_i64 s.position && is_i64 s.speed) h in
    let more = both (is_i64 s.position) (is_i64 s.speed) parts.1 in
    three_back 0 (integer_data s.lane) (integer_data s.position) (integer_data s.speed) (integer_back 0 s.lane parts.0) (integer_back 0 s.position more.0) (integer_back 0 s.speed more.1)

trace_back : (t : Trace) → is_written_trace t ≡ true → Back 3 (trace_data t)
trace_back t h =
    let parts = both (has_text t.path) (list_all is_written_sample t.samples) h in
    two_back 2 (path_data t.path) (array (items_of (map sample_data t.samples))) (string_back 2 _)
    (array_back 1 (items_of (map sample_data t.samples)) (list_back 1 sample_data is_written_sample sample_back t.samples parts.1))

held_back : (held : Held) → is_written_held held ≡ true → Back 2 (held_data held)
held_back (Number z) h = integer_back 2 z h
held_back (Chars text) h = string_back 2 text

value_back : (v : Value) → is_written_value v ≡ true → Back 3 (value_data v)
value_back v h = two_back 2 (path_data v.path) (held_data v.held) (string_back 2 _) (held_back v.held (both (has_text v.path) (is_written_held v.held) h).1)

-- ---- runs

-- the object with these values at the seven keys
abbrev gathered : Option Data → Option Data → Option Data → Option Data → Option Data → Option Data → Option Data → Option Data
gathered a b c d t e f =
    option_map object
    (option_and_then (λ choices. option_and_then (λ end. option_and_then (λ form. option_and_then (λ phases. option_and_then (λ tick. option_and_then (λ traces. option_and_then (λ values.
    Some (put (codes "values") values (put (codes "traces") traces (put (codes "tick") tick (put (codes "phases") phases (put (codes "form") form (put (codes "end") end (put (codes "choices") choices no_members))))))))
    f) e) t) d) c) b) a)

-- JSON that nests within the limit is what its tokens are read as
json_back : (j : json.Json) → HasNumbers j → depth j ≤ max_depth → option_and_then (λ p. json.if_last p.0 p.1) (json.value max_depth (tokens (print (json_tokens j)))) ≡ Some j
json_back j numbers shallow =
    ap (option_and_then (λ p. json.if_last p.0 p.1))
    (ap (json.value max_depth) (tokens-print (json_tokens j) (ArePrintable-json_tokens j numbers) ∙ sym (append-nil (json_tokens j)))
    ∙ value-json_tokens j max_depth [] shallow)

pub data_back : (run : Run) → is_written_run run ≡ true → read (compact_text (run_data run)) ≡ Some (run_data run)
data_back run h =
    ap (λ text. read text) (sym (print-outline (run_data run))) ∙ ap (option_and_then of_json) (json_back (outline (run_data run)) numbers shallow) ∙ same
  where
    a : (list_all is_written_choice run.choices ≡ true) × (is_u32 run.end && (list_all is_written_span run.phases && (is_from_to 10 1000 run.tick && (list_all is_written_trace run.traces && list_all is_written_value run.values))) ≡ true)
    a = both (list_all is_written_choice run.choices) (is_u32 run.end && (list_all is_written_span run.phases && (is_from_to 10 1000 run.tick && (list_all is_written_trace run.traces && list_all is_written_value run.values)))) h

    b : (is_u32 run.end ≡ true) × (list_all is_written_span run.phases && (is_from_to 10 1000 run.tick && (list_all is_written_trace run.traces && list_all is_written_value run.values)) ≡ true)
    b = both (is_u32 run.end) (list_all is_written_span run.phases && (is_from_to 10 1000 run.tick && (list_all is_written_trace run.traces && list_all is_written_value run.values))) a.1

    c : (list_all is_written_span run.phases ≡ true) × (is_from_to 10 1000 run.tick && (list_all is_written_trace run.traces && list_all is_written_value run.values) ≡ true)
    c = both (list_all is_written_span run.phases) (is_from_to 10 1000 run.tick && (list_all is_written_trace run.traces && list_all is_written_value run.values)) b.1

    t : (is_from_to 10 1000 run.tick ≡ true) × (list_all is_written_trace run.traces && list_all is_written_value run.values ≡ true)
    t = both (is_from_to 10 1000 run.tick) (list_all is_written_trace run.traces && list_all is_written_value run.values) c.1

    d : (list_all is_written_trace run.traces ≡ true) × (list_all is_written_value run.values ≡ true)
    d = both (list_all is_written_trace run.traces) (list_all is_written_value run.values) t.1

    choices : Back 4 (array (items_of (map choice_data run.choices)))
    choices = array_back 3 (items_of (map choice_data run.choices)) (list_back 3 choice_data is_written_choice choice_back run.choices a.0)

    end : Back 4 (count_data run.end)
    end = count_back 4 run.end b.0

    form : Back 4 (count_data 2)
    form = count_back 4 2 refl

    phases : Back 4 (array (items_of (map span_data run.phases)))
    phases = array_back 3 (items_of (map span_data run.phases)) (list_back 3 span_data is_written_span span_back run.phases c.0)

    tick : Back 4 (count_data run.tick)
    tick = count_back 4 run.tick (short_tick run.tick t.0)

    traces : Back 4 (array (items_of (map trace_data run.traces)))
    traces = array_back 3 (items_of (map trace_data run.traces)) (list_back 3 trace_data is_written_trace trace_back run.traces d.0)

    values : Back 4 (array (items_of (map value_data run.values)))
    values = array_back 3 (items_of (map value_data run.values)) (list_back 3 value_data is_written_value value_back run.values d.1)

    numbers : HasNumbers (outline (run_data run))
    numbers = (choices.numbers, (end.numbers, (form.numbers, (phases.numbers, (tick.numbers, (traces.numbers, (values.numbers, tt)))))))

    shallow : depth (outline (run_data run)) ≤ 127
    shallow =
        deeper _
        (max_within _ _ 4 choices.shallow (max_within _ _ 4 end.shallow (max_within _ _ 4 form.shallow (max_within _ _ 4 phases.shallow
        (max_within _ _ 4 tick.shallow (max_within _ _ 4 traces.shallow (max_within _ _ 4 values.shallow (omega arith))))))))
      where
        deeper : (n : ℕ) → n ≤ 4 → suc n ≤ 127
        deeper n p = omega (arith, p)

    same : of_json (outline (run_data run)) ≡ Some (run_data run)
    same = λ i. gathered (choices.same i) (end.same i) (form.same i) (phases.same i) (tick.same i) (traces.same i) (values.same i)
