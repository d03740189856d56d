-- Which runs and roads have numbers as the program has them, and vehicles with names.
use Rattle.std.specs.Prelude.{ℕ, ℤ, pos, negsuc, ◌^◌, ◌&&◌, ◌||◌, Bool, length, nat_eq, nat_lt}
use Rattle.std.specs.List.{list_all}
use Rattle.osc_base.specs.PathTexts.{continues_name, is_written}
use Rattle.osc_base.specs.declared.sample.Sample.{Sample}
use Rattle.run_check.specs.composition.declared.run.Trace.{Trace}
use Rattle.run_check.specs.composition.declared.run.Run.{Run}
use Rattle.run_exports.specs.declared.road.Road.{Road}

-- a number that an `i64` holds
abbrev pub is_i64 : ℤ → Bool
is_i64 (pos n) = nat_lt n (2 ^ 63)
is_i64 (negsuc n) = nat_lt n (2 ^ 63)

abbrev pub is_plain_sample : Sample → Bool
is_plain_sample s = is_i64 s.lane && (is_i64 s.position && is_i64 s.speed)

-- a path that has a text, and samples
abbrev pub is_plain_trace : Trace → Bool
is_plain_trace t = is_written t.path.steps && (list_all is_plain_sample t.samples && nat_lt (length t.samples) (2 ^ 64))

-- a run in the program's own numbers, each of whose vehicles has a path with a text, as each run has that `read_run` reads
abbrev pub is_plain_run : Run → Bool
is_plain_run run = (nat_lt run.tick (2 ^ 32) && nat_lt run.end (2 ^ 32)) && list_all is_plain_trace run.traces

-- a road in the program's own numbers
abbrev pub is_plain_road : Road → Bool
is_plain_road road = nat_lt road.lanes (2 ^ 32) && (nat_lt road.lane_width (2 ^ 32) && nat_lt road.metres (2 ^ 32))

-- a letter, a digit, or one of `_`, `.`, `[`, `]` and `-`
abbrev pub is_plain : ℕ → Bool
is_plain b = continues_name b || ((nat_eq b 46 || nat_eq b 91) || (nat_eq b 93 || nat_eq b 45))
