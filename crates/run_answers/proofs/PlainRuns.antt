-- Each run that is read from a file is plain, and so what `export` writes of it is read back.
use Rattle.std.proofs.Common.{◌≡◌, ◌∙◌, refl, sym, ap, subst, arith, ℕ, ℤ, pos, negsuc, ◌+◌, ◌^◌, ◌≤◌, Bool, true, false, ◌&&◌, List, [], ◌∷◌, length, Option, Some, None}
use Rattle.std.specs.Prelude.{nat_lt}
use Rattle.std.specs.List.{list_all}
use Rattle.outside_io.specs.declared.shelf.NamedBytes.{NamedBytes}
use Rattle.name_scope.specs.FileNumbers.{AddedFile}
use Rattle.osc_base.specs.declared.sample.Sample.{Sample}
use Rattle.run_texts.specs.composition.Scenes.{Scene}
use Rattle.run_texts.specs.composition.Invariants.{is_from_to}
use Rattle.run_texts.specs.composition.declared.run.Run.{Run}
use Rattle.run_texts.specs.composition.declared.run.Trace.{Trace}
use Rattle.run_tests.specs.WrittenRuns as written
use Rattle.run_tests.proofs.Migrations.{read_is_written}
use Rattle.run_tests.proofs.SampleCounts.{HaveFew, read_few}
use Rattle.run_tests.proofs.WrittenData.{both, short_tick}
use Rattle.instance_check.specs.run_check.Answers.{first_wrong}
use Rattle.instance_check.specs.run_check.declared.wrong.Wrong.{Wrong}
use Rattle.run_exports.specs.FormText.{form_text}
use Rattle.run_exports.specs.Plain.{is_i64, is_plain_sample, is_plain_trace, is_plain_run, is_plain_road}
use Rattle.run_exports.specs.declared.forms.Form.{Form}
use Rattle.run_exports.specs.declared.road.Road.{Road}
use Rattle.run_exports.proofs.CsvBack.{table_back}
use Rattle.run_exports.proofs.PageBack.{page_back}
use Rattle.run_exports.proofs.XodrBack.{xodr_back}
use Rattle.run_exports.proofs.XoscBack.{xosc_back}
use Rattle.command_replies.specs.Reply.{Answer}
use Rattle.command_replies.specs.Replies.{done, status_number}
use Rattle.run_answers.specs.Exports.{Exports, export_verdict}
use Rattle.run_answers.specs.ExportLaws.{HoldsRun, IsReadBack}
use Rattle.run_answers.specs.RunFiles.{IsRun, run_limit}
use Rattle.run_answers.specs.TextFiles.{no_file, too_long, bad_text, in_file}

-- ---- runs

and_true : (a b : Bool) → a ≡ true → b ≡ true → a && b ≡ true
and_true true b p q = q
and_true false b p q = p

same_i64 : (z : ℤ) → written.is_i64 z ≡ is_i64 z
same_i64 (pos n) = refl
same_i64 (negsuc n) = refl

same_sample : (s : Sample) → written.is_written_sample s ≡ is_plain_sample s
same_sample s = λ i. same_i64 s.lane i && (same_i64 s.position i && same_i64 s.speed i)

plain_samples : (samples : List Sample) → list_all written.is_written_sample samples ≡ true → list_all is_plain_sample samples ≡ true
plain_samples [] h = refl
plain_samples (s ∷ later) h =
    let parts = both (written.is_written_sample s) (list_all written.is_written_sample later) h in
    and_true (is_plain_sample s) (list_all is_plain_sample later) (sym (same_sample s) ∙ parts.0) (plain_samples later parts.1)

below : (n most : ℕ) → n ≤ most + 1 → most ≤ 16777216 → nat_lt n (2 ^ 64) ≡ true
below n most few short = grind (arith, few, short)

plain_trace : (most : ℕ) (t : Trace) → most ≤ run_limit → written.is_written_trace t ≡ true → length t.samples ≤ most + 1 → is_plain_trace t ≡ true
plain_trace most t short h few =
    let parts = both (written.has_text t.path) (list_all written.is_written_sample t.samples) h in
    and_true (written.has_text t.path) (list_all is_plain_sample t.samples && nat_lt (length t.samples) (2 ^ 64)) parts.0
    (and_true (list_all is_plain_sample t.samples) (nat_lt (length t.samples) (2 ^ 64)) (plain_samples t.samples parts.1) (below (length t.samples) most few short))

plain_traces : (most : ℕ) (traces : List Trace) → most ≤ run_limit → list_all written.is_written_trace traces ≡ true → HaveFew (most + 1) traces → list_all is_plain_trace traces ≡ true
plain_traces most [] short h few = refl
plain_traces most (t ∷ later) short h few =
    let parts = both (written.is_written_trace t) (list_all written.is_written_trace later) h in
    and_true (is_plain_trace t) (list_all is_plain_trace later) (plain_trace most t short parts.0 few.0) (plain_traces most later short parts.1 few.1)

plain_of : (most : ℕ) (run : Run) → most ≤ run_limit → written.is_written_run run ≡ true → HaveFew (most + 1) run.traces → is_plain_run run ≡ true
plain_of most run short h few =
    let a = both (list_all written.is_written_choice run.choices) _ h in
    let b = both (written.is_u32 run.end) _ a.1 in
    let c = both (list_all written.is_written_span run.phases) _ b.1 in
    let d = both (is_from_to 10 1000 run.tick) _ c.1 in
    let e = both (list_all written.is_written_trace run.traces) (list_all written.is_written_value run.values) d.1 in
    and_true (nat_lt run.tick (2 ^ 32) && nat_lt run.end (2 ^ 32)) (list_all is_plain_trace run.traces)
    (and_true (nat_lt run.tick (2 ^ 32)) (nat_lt run.end (2 ^ 32)) (short_tick run.tick d.0) b.0)
    (plain_traces most run.traces short e.0 few)

-- each run that is read from a file is plain
pub read_plain : (bytes : List ℕ) (run : Run) → length bytes ≤ run_limit → IsRun bytes run → is_plain_run run ≡ true
read_plain bytes run short is = plain_of (length bytes) run short (read_is_written bytes run is.1) (read_few bytes run is.1)

-- ---- what is written

-- no other answer is a text that was asked for
other_status : (text : List ℕ) (reply : Answer) → done text ≡ reply → 0 ≡ status_number reply.status
other_status text reply same = ap (λ (a : Answer). status_number a.status) same

text_of : (form : Form) (road : Road) (left : List ℕ) (program : List AddedFile) (run : Run) (text : List ℕ) (wrong : Option Wrong)
    → done text ≡ export_verdict form road left program run wrong → text ≡ form_text form road left run
text_of form road left program run text None same = ap (λ (a : Answer). a.text) same
text_of form road left program run text (Some wrong) same = let never : 0 ≡ 1 = other_status text _ same in absurd (omega (arith, never))

form_back : (form : Form) (road : Road) (left : List ℕ) (run : Run) → is_plain_road road ≡ true → is_plain_run run ≡ true → IsReadBack form road left (form_text form road left run) run
form_back Form.Csv road left run wide h = table_back run h
form_back Form.Xosc road left run wide h = xosc_back road left run wide h
form_back Form.Xodr road left run wide h = xodr_back road wide
form_back Form.Html road left run wide h = page_back run

-- what `export` writes of the run in a file is read back
pub export_back : (form : Form) (road : Road) (left : List ℕ) (texts : List NamedBytes) (file : List ℕ) (program : List AddedFile) (scene : Scene) (text : List ℕ)
    → is_plain_road road ≡ true → Exports form road left texts file program scene (done text) → HoldsRun texts file (IsReadBack form road left text)
export_back form road left texts file program scene text wide (no_file is told) = let never : 0 ≡ 6 = other_status text _ told in absurd (omega (arith, never))
export_back form road left texts file program scene text wide (too_long is told) = let never : 0 ≡ 6 = other_status text _ told in absurd (omega (arith, never))
export_back form road left texts file program scene text wide (bad_text bytes what there within is told) = let never : 0 ≡ 5 = other_status text _ told in absurd (omega (arith, never))
export_back form road left texts file program scene text wide (in_file bytes run there within is said) =
    let same = text_of form road left program run text (first_wrong scene run) said in
    record {
      bytes = bytes;
      run = run;
      there = there;
      within = within;
      is = is;
      said = subst (λ t. IsReadBack form road left t run) (sym same) (form_back form road left run wide (read_plain bytes run within is));
    }
