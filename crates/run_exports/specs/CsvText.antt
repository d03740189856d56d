-- A run as a table: a line for each vehicle and tick.
use Rattle.std.specs.Prelude.{ℕ, List, ◌++◌, codes, flat_map}
use Rattle.std.specs.List.{concat}
use Rattle.std.specs.Fmt.{signed_decimal}
use Rattle.osc_base.specs.Path.{path_text}
use Rattle.osc_base.specs.declared.sample.Sample.{Sample}
use Rattle.run_check.specs.composition.declared.run.Trace.{Trace}
use Rattle.run_check.specs.composition.declared.run.Run.{Run}
use Rattle.run_exports.specs.Decimals.{fixed, signed_fixed}
use Rattle.run_exports.specs.Timed.{timed}

-- the time in seconds, the vehicle and its lane
abbrev pub place_part : List ℕ → ℕ → Sample → List ℕ
place_part vehicle time sample = fixed 3 time ++ codes "," ++ vehicle ++ codes "," ++ signed_decimal sample.lane ++ codes ","

-- the position in metres and the speed in metres a second
abbrev pub motion_part : Sample → List ℕ
motion_part sample = signed_fixed 6 sample.position ++ codes "," ++ signed_fixed 3 sample.speed ++ codes "\n"

-- the line of a sample
abbrev pub sample_line : List ℕ → ℕ → Sample → List ℕ
sample_line vehicle time sample = place_part vehicle time sample ++ motion_part sample

-- a line for each sample of a vehicle
abbrev pub trace_lines : ℕ → Trace → List ℕ
trace_lines tick trace = concat (timed (sample_line (path_text trace.path.steps)) tick 0 trace.samples)

-- the names of the columns, and then the lines of each vehicle
abbrev pub csv_text : Run → List ℕ
csv_text run = codes "time_s,vehicle,lane,position_m,speed_mps\n" ++ flat_map (trace_lines run.tick) run.traces
