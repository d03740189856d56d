-- Which runs have a text that can be read back.
use Rattle.std.specs.Prelude.{ℕ, ℤ, pos, negsuc, ◌^◌, ◌&&◌, Bool, true, nat_lt}
use Rattle.std.specs.List.{list_all}
use Rattle.osc_base.specs.declared.path.Path.{Path}
use Rattle.osc_base.specs.declared.sample.Sample.{Sample}
use Rattle.osc_base.specs.PathTexts.{is_written}
use Rattle.run_check.specs.composition.declared.run.Choice.{Choice}
use Rattle.run_check.specs.composition.declared.run.Span.{Span}
use Rattle.run_check.specs.composition.declared.run.Trace.{Trace}
use Rattle.run_check.specs.composition.declared.run.Value.{Value}
use Rattle.run_check.specs.composition.declared.run.Run.{Run}
use Rattle.run_check.specs.composition.declared.run.Held.{Held}
use Rattle.run_check.specs.composition.declared.run.Held.TheVariants.{Number, Chars}
use Rattle.run_check.specs.composition.Invariants.{is_from_to}

-- a number that a `u32` holds, and one that an `i64` holds, as those of all runs in the program
abbrev pub is_u32 : ℕ → Bool
is_u32 n = nat_lt n (2 ^ 32)

abbrev pub is_i64 : ℤ → Bool
is_i64 (pos n) = nat_lt n (2 ^ 63)
is_i64 (negsuc n) = nat_lt n (2 ^ 63)

-- a path other than the root that has a text
abbrev pub has_text : Path → Bool
has_text path = is_written path.steps

abbrev pub is_written_choice : Choice → Bool
is_written_choice c = has_text c.path && is_u32 c.member

abbrev pub is_written_span : Span → Bool
is_written_span s = has_text s.path && (is_u32 s.start && is_u32 s.end)

abbrev pub is_written_sample : Sample → Bool
is_written_sample s = is_i64 s.lane && (is_i64 s.position && is_i64 s.speed)

abbrev pub is_written_trace : Trace → Bool
is_written_trace t = has_text t.path && list_all is_written_sample t.samples

abbrev pub is_written_held : Held → Bool
is_written_held (Number z) = is_i64 z
is_written_held (Chars text) = true

abbrev pub is_written_value : Value → Bool
is_written_value v = has_text v.path && is_written_held v.held

-- a run whose paths have texts, and whose ticks have a length that the words may give
abbrev pub is_written_run : Run → Bool
is_written_run run =
    list_all is_written_choice run.choices && (is_u32 run.end && (list_all is_written_span run.phases
    && (is_from_to 10 1000 run.tick && (list_all is_written_trace run.traces && list_all is_written_value run.values))))
