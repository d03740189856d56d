use Rattle.std.proofs.Common.{◌≡◌, ◌++◌, take}
use Rattle.std.specs.Prelude.{flat_map}
use Rattle.std.specs.String.{string_bytes}
use Rattle.run_exports.specs.CsvText.{trace_lines}
use Rattle.run_exports.proofs.table.push_traces.Given as goal

abbrev pub invariant-loop-trace : goal.invariant-loop-trace
invariant-loop-trace l = string_bytes l.text ≡ string_bytes l.fn.text ++ flat_map (trace_lines l.tick) (take l.trace-index l.traces)
