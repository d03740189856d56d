-- The rows of a table are the samples that it was written of.
use Rattle.std.proofs.Common.{◌≡◌, ◌∙◌, refl, sym, ap, arith, ℕ, ◌+◌, ◌*◌, ◌^◌, ◌<◌, ◌≤◌, true, ◌&&◌, List, [], ◌∷◌, ◌++◌, length, append_assoc, ltb-true}
use Rattle.std.specs.Prelude.{ℤ, pos, negsuc, nat_lt, unsigned_abs, flat_map}
use Rattle.std.specs.List.{list_all, concat}
use Rattle.std.specs.Fmt.{signed_decimal}
use Rattle.std.proofs.Math.Nat.{mul-le-mul_left}
use Rattle.osc_base.specs.Path.{path_text}
use Rattle.osc_base.specs.PathTexts.{is_written}
use Rattle.osc_base.specs.declared.sample.Sample.{Sample}
use Rattle.run_check.specs.composition.declared.run.Trace.{Trace}
use Rattle.run_check.specs.composition.declared.run.Run.{Run}
use Rattle.run_exports.specs.Decimals.{fixed, signed_fixed}
use Rattle.run_exports.specs.Timed.{timed}
use Rattle.run_exports.specs.Plain.{is_plain, is_i64, is_plain_sample, is_plain_trace, is_plain_run}
use Rattle.run_exports.specs.CsvText.{sample_line, trace_lines, csv_text}
use Rattle.run_exports.specs.Reading.{ended_by}
use Rattle.run_exports.specs.CsvReader.{Row, row_of, read_csv}
use Rattle.run_exports.specs.RoundTrips.{sample_row, trace_rows}
use Rattle.run_exports.proofs.Cuts.{both, free, kind_free, free_then, ended_mark}
use Rattle.run_exports.proofs.PlainTexts.{fixed_plain, signed_fixed_plain, signed_decimal_plain, path_plain}
use Rattle.run_exports.proofs.NumbersBack.{thousandths_back, signed_whole_back, signed_thousandths_back, signed_millionths_back}

-- ---- a line

abbrev line_of : List ℕ → List ℕ → List ℕ → List ℕ → List ℕ → List ℕ
line_of a b c d e = a ++ 44 ∷ (b ++ 44 ∷ (c ++ 44 ∷ (d ++ 44 ∷ e)))

regroup : (a b c d e rest : List ℕ)
    → ((((((a ++ 44 ∷ []) ++ b) ++ 44 ∷ []) ++ c) ++ 44 ∷ []) ++ (((d ++ 44 ∷ []) ++ e) ++ 10 ∷ [])) ++ rest ≡ line_of a b c d e ++ 10 ∷ rest
regroup a b c d e rest = simp append_assoc

spread : (a b c d e : List ℕ) → line_of a b c d e ++ 44 ∷ [] ≡ a ++ 44 ∷ (b ++ 44 ∷ (c ++ 44 ∷ (d ++ 44 ∷ (e ++ 44 ∷ []))))
spread a b c d e = simp append_assoc

-- five plain parts
record ArePlain (a b c d e : List ℕ) : Type 0 where
  first : list_all is_plain a ≡ true
  second : list_all is_plain b ≡ true
  third : list_all is_plain c ≡ true
  fourth : list_all is_plain d ≡ true
  fifth : list_all is_plain e ≡ true

pieces : (a b c d e : List ℕ) → ArePlain a b c d e → ended_by 44 (line_of a b c d e ++ 44 ∷ []) ≡ a ∷ b ∷ c ∷ d ∷ e ∷ []
pieces a b c d e plain =
    ap (ended_by 44) (spread a b c d e)
    ∙ ended_mark 44 a (b ++ 44 ∷ (c ++ 44 ∷ (d ++ 44 ∷ (e ++ 44 ∷ [])))) (kind_free is_plain 44 refl a plain.first)
    ∙ ap (λ r. a ∷ r) (ended_mark 44 b (c ++ 44 ∷ (d ++ 44 ∷ (e ++ 44 ∷ []))) (kind_free is_plain 44 refl b plain.second))
    ∙ ap (λ r. a ∷ b ∷ r) (ended_mark 44 c (d ++ 44 ∷ (e ++ 44 ∷ [])) (kind_free is_plain 44 refl c plain.third))
    ∙ ap (λ r. a ∷ b ∷ c ∷ r) (ended_mark 44 d (e ++ 44 ∷ []) (kind_free is_plain 44 refl d plain.fourth))
    ∙ ap (λ r. a ∷ b ∷ c ∷ d ∷ r) (ended_mark 44 e [] (kind_free is_plain 44 refl e plain.fifth))

on_one_line : (a b c d e : List ℕ) → ArePlain a b c d e → free 10 (line_of a b c d e) ≡ true
on_one_line a b c d e plain =
    free_then 10 44 a (b ++ 44 ∷ (c ++ 44 ∷ (d ++ 44 ∷ e))) (kind_free is_plain 10 refl a plain.first) refl
    (free_then 10 44 b (c ++ 44 ∷ (d ++ 44 ∷ e)) (kind_free is_plain 10 refl b plain.second) refl
    (free_then 10 44 c (d ++ 44 ∷ e) (kind_free is_plain 10 refl c plain.third) refl
    (free_then 10 44 d e (kind_free is_plain 10 refl d plain.fourth) refl (kind_free is_plain 10 refl e plain.fifth))))

-- ---- rows

abbrev line_rows : List ℕ → List Row
line_rows line = row_of (ended_by 44 (line ++ 44 ∷ []))

abbrev rows : List (List ℕ) → List Row
rows lines = flat_map line_rows lines

first_line : (a b c d e rest : List ℕ) → ArePlain a b c d e
    → rows (ended_by 10 (((((((a ++ 44 ∷ []) ++ b) ++ 44 ∷ []) ++ c) ++ 44 ∷ []) ++ (((d ++ 44 ∷ []) ++ e) ++ 10 ∷ [])) ++ rest))
    ≡ row_of (a ∷ b ∷ c ∷ d ∷ e ∷ []) ++ rows (ended_by 10 rest)
first_line a b c d e rest plain =
    ap (λ t. rows (ended_by 10 t)) (regroup a b c d e rest)
    ∙ ap rows (ended_mark 10 (line_of a b c d e) rest (on_one_line a b c d e plain))
    ∙ ap (λ parts. row_of parts ++ rows (ended_by 10 rest)) (pieces a b c d e plain)

pub i64_size : (z : ℤ) → is_i64 z ≡ true → unsigned_abs z < 10 ^ 64
i64_size (pos n) h = omega (arith, ltb-true n (2 ^ 63) h)
i64_size (negsuc n) h = omega (arith, ltb-true n (2 ^ 63) h)

module _ (vehicle : List ℕ) (named : list_all is_plain vehicle ≡ true) (tick : ℕ) where
  row_back : (time : ℕ) (s : Sample) → time < 10 ^ 64 → is_plain_sample s ≡ true → (rest : List ℕ)
      → rows (ended_by 10 (sample_line vehicle time s ++ rest)) ≡ sample_row vehicle time s ∷ rows (ended_by 10 rest)
  row_back time s less h rest =
      let parts = both (is_i64 s.lane) (is_i64 s.position && is_i64 s.speed) h in
      let more = both (is_i64 s.position) (is_i64 s.speed) parts.1 in
      let lane : unsigned_abs s.lane < 10 ^ 64 = i64_size s.lane parts.0 in
      let position : unsigned_abs s.position < 10 ^ 64 = i64_size s.position more.0 in
      let speed : unsigned_abs s.speed < 10 ^ 64 = i64_size s.speed more.1 in
      first_line (fixed 3 time) vehicle (signed_decimal s.lane) (signed_fixed 6 s.position) (signed_fixed 3 s.speed) rest
      (record {
        first = fixed_plain 3 time (omega arith) (omega arith);
        second = named;
        third = signed_decimal_plain s.lane lane;
        fourth = signed_fixed_plain 6 s.position (fixed_plain 6 (unsigned_abs s.position) (omega arith) (omega arith));
        fifth = signed_fixed_plain 3 s.speed (fixed_plain 3 (unsigned_abs s.speed) (omega arith) (omega arith));
      })
      ∙ (λ i. record {
        time = thousandths_back time less i;
        vehicle = vehicle;
        lane = signed_whole_back s.lane lane i;
        position = signed_millionths_back s.position position i;
        speed = signed_thousandths_back s.speed speed i;
      } ∷ rows (ended_by 10 rest))

  rows_back : (time : ℕ) (samples : List Sample) → time + tick * length samples < 10 ^ 64 → list_all is_plain_sample samples ≡ true → (rest : List ℕ)
      → rows (ended_by 10 (concat (timed (sample_line vehicle) tick time samples) ++ rest)) ≡ timed (sample_row vehicle) tick time samples ++ rows (ended_by 10 rest)
  rows_back time [] less h rest = refl
  rows_back time (s ∷ later) less h rest =
      let parts = both (is_plain_sample s) (list_all is_plain_sample later) h in
      let lines = concat (timed (sample_line vehicle) tick (time + tick) later) in
      ap (λ t. rows (ended_by 10 t)) (append_assoc (sample_line vehicle time s) lines rest)
      ∙ row_back time s (omega arith) parts.0 (lines ++ rest)
      ∙ ap (λ rs. sample_row vehicle time s ∷ rs) (rows_back (time + tick) later (omega arith) parts.1 rest)

-- ---- tables

pub times_fit : (tick count : ℕ) → tick < 2 ^ 32 → count < 2 ^ 64 → 0 + tick * count < 10 ^ 64
times_fit tick count small few =
    let most : count ≤ 2 ^ 64 = omega arith in
    omega (arith, mul-le-mul_left tick most)

trace_back : (tick : ℕ) (t : Trace) → tick < 2 ^ 32 → is_plain_trace t ≡ true → (rest : List ℕ)
    → rows (ended_by 10 (trace_lines tick t ++ rest)) ≡ trace_rows tick t ++ rows (ended_by 10 rest)
trace_back tick t small h rest =
    let parts = both (is_written t.path.steps) (list_all is_plain_sample t.samples && nat_lt (length t.samples) (2 ^ 64)) h in
    let more = both (list_all is_plain_sample t.samples) (nat_lt (length t.samples) (2 ^ 64)) parts.1 in
    rows_back (path_text t.path.steps) (path_plain t.path.steps parts.0) tick 0 t.samples
    (times_fit tick (length t.samples) small (ltb-true (length t.samples) (2 ^ 64) more.1)) more.0 rest

traces_back : (tick : ℕ) (traces : List Trace) → tick < 2 ^ 32 → list_all is_plain_trace traces ≡ true
    → rows (ended_by 10 (flat_map (trace_lines tick) traces)) ≡ flat_map (trace_rows tick) traces
traces_back tick [] small h = refl
traces_back tick (t ∷ later) small h =
    let parts = both (is_plain_trace t) (list_all is_plain_trace later) h in
    trace_back tick t small parts.0 (flat_map (trace_lines tick) later)
    ∙ ap (λ rs. trace_rows tick t ++ rs) (traces_back tick later small parts.1)

pub table_back : (run : Run) → is_plain_run run ≡ true → read_csv (csv_text run) ≡ flat_map (trace_rows run.tick) run.traces
table_back run h =
    let parts = both (nat_lt run.tick (2 ^ 32) && nat_lt run.end (2 ^ 32)) (list_all is_plain_trace run.traces) h in
    traces_back run.tick run.traces (ltb-true run.tick (2 ^ 32) (both (nat_lt run.tick (2 ^ 32)) (nat_lt run.end (2 ^ 32)) parts.0).0) parts.1
