-- The text of a run whose paths have texts and whose numbers are small is UTF-8, if the texts that its fields hold are.
use Rattle.std.proofs.Common.{◌≡◌, refl, ℕ, ℤ, pos, negsuc, ◌^◌, ◌<◌, ◌≤◌, Bool, true, false, ◌&&◌, List, [], ◌∷◌, ◌++◌, map, codes, IsUtf8, arith}
use Rattle.std.specs.Prelude.{nat_le, nat_lt, flat_map, ⊤}
use Rattle.std.specs.Fmt.{decimal}
use Rattle.std.specs.List.{list_all}
use Rattle.std.specs.Str.{is_utf8}
use Rattle.std.proofs.lemmas.Bool.{and_parts, leb-true, lt-ltb, ltb-true}
use Rattle.std.proofs.lemmas.Bool.Decides.{nat_tests}
use Rattle.std.proofs.lemmas.Fmt.{IsAscii-decimal, IsAscii-signed}
use Rattle.std.proofs.lemmas.Str.{IsUtf8-append, IsUtf8-from_ascii, IsUtf8-from_is_utf8, IsUtf8-nil}
use Rattle.json.proofs.Printed.Utf8.{IsUtf8-are_ascii, IsUtf8-boolean, IsUtf8-quoted, are_ascii}
use Rattle.serde_json.specs.Data.{Data, null, boolean, number, string, array, object, Items, no_items, item, Members, no_members, member}
use Rattle.serde_json.specs.View.{items_of}
use Rattle.serde_json.specs.Written.{number_text, comma_if, compact_text, items_text, members_text}
use Rattle.osc_base.specs.Path.{later_step_text, path_text}
use Rattle.osc_base.specs.PathTexts.{are_steps, before_member, begins_name, continues_name, is_name, is_step, is_written}
use Rattle.osc_base.specs.declared.path.Step.{Step}
use Rattle.osc_base.specs.declared.path.Step.TheVariants.{Name, Index, Member}
use Rattle.osc_base.specs.declared.sample.Sample.{Sample}
use Rattle.run_tests.specs.composition.declared.run.Choice.{Choice}
use Rattle.run_tests.specs.composition.declared.run.Span.{Span}
use Rattle.run_tests.specs.composition.declared.run.Trace.{Trace}
use Rattle.run_tests.specs.composition.declared.run.Value.{Value}
use Rattle.run_tests.specs.composition.declared.run.Run.{Run}
use Rattle.run_tests.specs.composition.declared.run.Held.{Held}
use Rattle.run_tests.specs.composition.declared.run.Held.TheVariants.{Number, Chars}
use Rattle.run_tests.specs.composition.Invariants.{is_from_to}
use Rattle.run_tests.specs.run_check.RunText.{integer_data, choice_data, span_data, sample_data, trace_data, held_data, value_data, run_data, run_text}
use Rattle.run_tests.specs.WrittenRuns.{is_u32, is_i64, has_text, is_written_choice, is_written_span, is_written_sample, is_written_trace, is_written_held, is_written_value, is_written_run}
use Rattle.source_scenes.proofs.of_field_flatten.Tests.{left_of, right_of}

-- ---- paths

name_byte : (b : ℕ) → continues_name b ≡ true → nat_lt b 128 ≡ true
name_byte b h = grind (arith, nat_tests)

first_byte : (b : ℕ) → begins_name b ≡ true → nat_lt b 128 ≡ true
first_byte b h = grind (arith, nat_tests)

name_bytes : (bs : List ℕ) → list_all continues_name bs ≡ true → are_ascii bs ≡ true
name_bytes [] h = refl
name_bytes (b ∷ bs) h = let parts = and_parts (continues_name b) (list_all continues_name bs) h in both (nat_lt b 128) (are_ascii bs) (name_byte b parts.0) (name_bytes bs parts.1)
  where
    both : (a c : Bool) → a ≡ true → c ≡ true → a && c ≡ true
    both true c p q = q
    both false c p q = p

name_utf8 : (name : List ℕ) → is_name name ≡ true → IsUtf8 name
name_utf8 [] h = IsUtf8-nil
name_utf8 (b ∷ bs) h =
    let parts = and_parts (begins_name b) (list_all continues_name bs) h in
    IsUtf8-append (b ∷ []) bs (IsUtf8-are_ascii (b ∷ []) (one (nat_lt b 128) (first_byte b parts.0))) (IsUtf8-are_ascii bs (name_bytes bs parts.1))
  where
    one : (a : Bool) → a ≡ true → a && true ≡ true
    one true p = refl
    one false p = p

small : (n : ℕ) → is_u32 n ≡ true → n < 2 ^ 64
small n h = let less = ltb-true n (2 ^ 32) h in omega (arith, less)

count_utf8 : (n : ℕ) → is_u32 n ≡ true → IsUtf8 (decimal n)
count_utf8 n h = IsUtf8-from_ascii (decimal n) (IsAscii-decimal n (small n h))

bracketed_utf8 : (n : ℕ) → is_u32 n ≡ true → IsUtf8 (codes "[" ++ decimal n ++ codes "]")
bracketed_utf8 n h =
    IsUtf8-append (codes "[" ++ decimal n) (codes "]") (IsUtf8-append (codes "[") (decimal n) (IsUtf8-are_ascii (codes "[") refl) (count_utf8 n h)) (IsUtf8-are_ascii (codes "]") refl)

step_utf8 : (of_member : Bool) (s : Step) → is_step of_member s ≡ true → IsUtf8 (later_step_text s)
step_utf8 of_member (Name name) h = IsUtf8-append (codes ".") name (IsUtf8-are_ascii (codes ".") refl) (name_utf8 name h)
step_utf8 of_member (Index n) h = bracketed_utf8 n (right_of _ (nat_lt n (2 ^ 32)) h)
step_utf8 of_member (Member n) h = bracketed_utf8 n (right_of of_member (nat_lt n (2 ^ 32)) h)

steps_utf8 : (of_member : Bool) (steps : List Step) → are_steps of_member steps ≡ true → IsUtf8 (flat_map later_step_text steps)
steps_utf8 of_member [] h = IsUtf8-nil
steps_utf8 of_member (s ∷ later) h =
    let parts = and_parts (is_step of_member s) (are_steps (before_member s) later) h in
    IsUtf8-append (later_step_text s) (flat_map later_step_text later) (step_utf8 of_member s parts.0) (steps_utf8 (before_member s) later parts.1)

path_utf8 : (steps : List Step) → is_written steps ≡ true → IsUtf8 (path_text steps)
path_utf8 [] h = cc
path_utf8 (Name name ∷ later) h =
    let parts = and_parts (is_name name) (are_steps (before_member (Name name)) later) h in
    IsUtf8-append name (flat_map later_step_text later) (name_utf8 name parts.0) (steps_utf8 (before_member (Name name)) later parts.1)
path_utf8 (Index n ∷ later) h = cc
path_utf8 (Member n ∷ later) h = cc

-- ---- data

-- each text in the data is UTF-8
abbrev mutual
  AllUtf8 : Data → Type 0
  AllUtf8 null = ⊤
  AllUtf8 (boolean b) = ⊤
  AllUtf8 (number n) = IsUtf8 (number_text n)
  AllUtf8 (string s) = IsUtf8 s
  AllUtf8 (array ds) = ItemsUtf8 ds
  AllUtf8 (object ms) = MembersUtf8 ms

  ItemsUtf8 : Items → Type 0
  ItemsUtf8 no_items = ⊤
  ItemsUtf8 (item d ds) = AllUtf8 d × ItemsUtf8 ds

  MembersUtf8 : Members → Type 0
  MembersUtf8 no_members = ⊤
  MembersUtf8 (member k d ms) = IsUtf8 k × AllUtf8 d × MembersUtf8 ms

comma_utf8 : (later : Bool) → IsUtf8 (comma_if later)
comma_utf8 true = IsUtf8-are_ascii (44 ∷ []) refl
comma_utf8 false = IsUtf8-nil

mutual
  data_utf8 : (d : Data) → AllUtf8 d → IsUtf8 (compact_text d)
  data_utf8 null h = IsUtf8-are_ascii _ refl
  data_utf8 (boolean b) h = IsUtf8-boolean b
  data_utf8 (number n) h = h
  data_utf8 (string s) h = IsUtf8-quoted s h
  data_utf8 (array ds) h = IsUtf8-append (91 ∷ []) (items_text false ds) (IsUtf8-are_ascii (91 ∷ []) refl) (items_utf8 false ds h)
  data_utf8 (object ms) h = IsUtf8-append (123 ∷ []) (members_text false ms) (IsUtf8-are_ascii (123 ∷ []) refl) (members_utf8 false ms h)

  items_utf8 : (later : Bool) (ds : Items) → ItemsUtf8 ds → IsUtf8 (items_text later ds)
  items_utf8 later no_items h = IsUtf8-are_ascii (93 ∷ []) refl
  items_utf8 later (item d ds) h =
      IsUtf8-append (comma_if later) (compact_text d ++ items_text true ds) (comma_utf8 later) (IsUtf8-append (compact_text d) (items_text true ds) (data_utf8 d h.0) (items_utf8 true ds h.1))

  members_utf8 : (later : Bool) (ms : Members) → MembersUtf8 ms → IsUtf8 (members_text later ms)
  members_utf8 later no_members h = IsUtf8-are_ascii (125 ∷ []) refl
  members_utf8 later (member k d ms) h =
      IsUtf8-append (comma_if later) _ (comma_utf8 later)
      (IsUtf8-append _ (58 ∷ (compact_text d ++ members_text true ms)) (IsUtf8-quoted k h.0)
      (IsUtf8-append (58 ∷ []) (compact_text d ++ members_text true ms) (IsUtf8-are_ascii (58 ∷ []) refl)
      (IsUtf8-append (compact_text d) (members_text true ms) (data_utf8 d h.1) (members_utf8 true ms h.2))))

-- ---- runs

integer_utf8 : (z : ℤ) → is_i64 z ≡ true → AllUtf8 (integer_data z)
integer_utf8 (pos n) h = let less = ltb-true n (2 ^ 63) h in IsUtf8-from_ascii (decimal n) (IsAscii-decimal n (omega (arith, less)))
integer_utf8 (negsuc n) h = let less = ltb-true n (2 ^ 63) h in IsUtf8-from_ascii _ (IsAscii-signed (negsuc n) (omega (arith, less)))

list_utf8 : {T : Type 0} (data_of : T → Data) (test : T → Bool) → ((x : T) → test x ≡ true → AllUtf8 (data_of x)) → (xs : List T) → list_all test xs ≡ true → ItemsUtf8 (items_of (map data_of xs))
list_utf8 data_of test f [] h = tt
list_utf8 data_of test f (x ∷ xs) h = let parts = and_parts (test x) (list_all test xs) h in (f x parts.0, list_utf8 data_of test f xs parts.1)

choice_utf8 : (c : Choice) → is_written_choice c ≡ true → AllUtf8 (choice_data c)
choice_utf8 c h = let parts = and_parts (has_text c.path) (is_u32 c.member) h in (path_utf8 c.path.steps parts.0, (count_utf8 c.member parts.1, tt))

span_utf8 : (s : Span) → is_written_span s ≡ true → AllUtf8 (span_data s)
span_utf8 s h =
    let parts = and_parts (has_text s.path) (is_u32 s.start && is_u32 s.end) h in
    let ends = and_parts (is_u32 s.start) (is_u32 s.end) parts.1 in
    (path_utf8 s.path.steps parts.0, (count_utf8 s.start ends.0, (count_utf8 s.end ends.1, tt)))

sample_utf8 : (s : Sample) → is_written_sample s ≡ true → AllUtf8 (sample_data s)
sample_utf8 s h =
    let parts = and_parts (is_i64 s.lane) (is_i64 s.position && is_i64 s.speed) h in
    let more = and_parts (is_i64 s.position) (is_i64 s.speed) parts.1 in
    (integer_utf8 s.lane parts.0, (integer_utf8 s.position more.0, (integer_utf8 s.speed more.1, tt)))

trace_utf8 : (t : Trace) → is_written_trace t ≡ true → AllUtf8 (trace_data t)
trace_utf8 t h =
    let parts = and_parts (has_text t.path) (list_all is_written_sample t.samples) h in
    (path_utf8 t.path.steps parts.0, (list_utf8 sample_data is_written_sample sample_utf8 t.samples parts.1, tt))

-- a text that a field holds is UTF-8
abbrev pub is_utf8_held : Held → Bool
is_utf8_held (Number z) = true
is_utf8_held (Chars text) = is_utf8 text

held_utf8 : (held : Held) → is_written_held held ≡ true → is_utf8_held held ≡ true → AllUtf8 (held_data held)
held_utf8 (Number z) h u = integer_utf8 z h
held_utf8 (Chars text) h u = IsUtf8-from_is_utf8 text u

-- a value with a path and a number, or with a text that is UTF-8
abbrev pub is_utf8_value : Value → Bool
is_utf8_value v = is_written_value v && is_utf8_held v.held

value_utf8 : (v : Value) → is_utf8_value v ≡ true → AllUtf8 (value_data v)
value_utf8 v h =
    let all = and_parts (is_written_value v) (is_utf8_held v.held) h in
    let parts = and_parts (has_text v.path) (is_written_held v.held) all.0 in
    (path_utf8 v.path.steps parts.0, (held_utf8 v.held parts.1 all.1, tt))

-- the parts of a run that is written, and whose texts are UTF-8
pub record HasUtf8Parts (run : Run) : Type 0 where
  pub choices : list_all is_written_choice run.choices ≡ true
  pub end : is_u32 run.end ≡ true
  pub phases : list_all is_written_span run.phases ≡ true
  pub tick : is_from_to 10 1000 run.tick ≡ true
  pub traces : list_all is_written_trace run.traces ≡ true
  pub values : list_all is_utf8_value run.values ≡ true

-- the length of a tick is a number of 32 bits
tick_word : (n : ℕ) → is_from_to 10 1000 n ≡ true → is_u32 n ≡ true
tick_word n h = lt-ltb n (2 ^ 32) (below n (leb-true n 1000 (right_of (nat_le 10 n) (nat_le n 1000) h)))
  where
    below : (n : ℕ) → n ≤ 1000 → n < 2 ^ 32
    below n h = omega (arith, h)

pub run_utf8 : (run : Run) → HasUtf8Parts run → IsUtf8 (run_text run)
unfolding run_text
run_utf8 run its =
    IsUtf8-append (compact_text (run_data run)) (codes "\n")
    (data_utf8 (run_data run) (
      IsUtf8-are_ascii (codes "choices") refl,
      list_utf8 choice_data is_written_choice choice_utf8 run.choices its.choices,
      (
        IsUtf8-are_ascii (codes "end") refl,
        count_utf8 run.end its.end,
        (
          IsUtf8-are_ascii (codes "form") refl,
          count_utf8 2 refl,
          (
            IsUtf8-are_ascii (codes "phases") refl,
            list_utf8 span_data is_written_span span_utf8 run.phases its.phases,
            (
              IsUtf8-are_ascii (codes "tick") refl,
              count_utf8 run.tick (tick_word run.tick its.tick),
              (
                IsUtf8-are_ascii (codes "traces") refl,
                list_utf8 trace_data is_written_trace trace_utf8 run.traces its.traces,
                (
                  IsUtf8-are_ascii (codes "values") refl,
                  list_utf8 value_data is_utf8_value value_utf8 run.values its.values,
                  tt,
                ),
              ),
            ),
          ),
        ),
      ),
    ))
    (IsUtf8-are_ascii (codes "\n") refl)

-- such a run is one that can be read back
pub run_written : (run : Run) → HasUtf8Parts run → is_written_run run ≡ true
run_written run its =
    both (list_all is_written_choice run.choices) _ its.choices (both (is_u32 run.end) _ its.end (both (list_all is_written_span run.phases) _ its.phases
    (both (is_from_to 10 1000 run.tick) _ its.tick
    (both (list_all is_written_trace run.traces) (list_all is_written_value run.values) its.traces (values_written run.values its.values)))))
  where
    both : (a c : Bool) → a ≡ true → c ≡ true → a && c ≡ true
    both true c p q = q
    both false c p q = p

    values_written : (vs : List Value) → list_all is_utf8_value vs ≡ true → list_all is_written_value vs ≡ true
    values_written [] h = refl
    values_written (v ∷ vs) h =
        let parts = and_parts (is_utf8_value v) (list_all is_utf8_value vs) h in
        both (is_written_value v) _ (left_of (is_written_value v) (is_utf8_held v.held) parts.0) (values_written vs parts.1)
