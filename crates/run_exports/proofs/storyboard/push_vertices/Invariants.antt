use Rattle.std.proofs.Common.{◌≡◌, ◌++◌, ◌*◌, drop}
use Rattle.std.specs.List.{concat}
use Rattle.std.specs.String.{string_bytes}
use Rattle.run_exports.specs.XoscText.{vertex_line}
use Rattle.run_exports.specs.Timed.{timed}
use Rattle.run_exports.proofs.storyboard.push_vertices.Given as goal

abbrev pub invariant-loop-index : goal.invariant-loop-index
invariant-loop-index l =
    string_bytes l.text ++ concat (timed (vertex_line l.road) l.tick (l.index * l.tick) (drop l.index l.samples))
    ≡ string_bytes l.fn.text ++ concat (timed (vertex_line l.road) l.tick 0 l.samples)
