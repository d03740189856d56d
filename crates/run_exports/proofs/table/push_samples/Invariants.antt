use Rattle.std.proofs.Common.{◌≡◌, ◌++◌, ◌*◌, drop}
use Rattle.std.specs.List.{concat}
use Rattle.std.specs.String.{string_bytes}
use Rattle.run_exports.specs.CsvText.{sample_line}
use Rattle.run_exports.specs.Timed.{timed}
use Rattle.run_exports.proofs.table.push_samples.Given as goal

abbrev pub invariant-loop-index : goal.invariant-loop-index
invariant-loop-index l =
    string_bytes l.text ++ concat (timed (sample_line l.vehicle) l.tick (l.index * l.tick) (drop l.index l.samples))
    ≡ string_bytes l.fn.text ++ concat (timed (sample_line l.vehicle) l.tick 0 l.samples)
