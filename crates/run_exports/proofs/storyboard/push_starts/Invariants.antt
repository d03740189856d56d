use Rattle.std.proofs.Common.{◌≡◌, ◌++◌, take}
use Rattle.std.specs.Prelude.{flat_map}
use Rattle.std.specs.String.{string_bytes}
use Rattle.run_exports.specs.XoscText.{start}
use Rattle.run_exports.specs.declared.xosc_parts.Part.{Part}
use Rattle.run_exports.specs.XoscParts.{part_text}
use Rattle.run_exports.proofs.storyboard.push_starts.Given as goal

abbrev pub invariant-loop-trace : goal.invariant-loop-trace
invariant-loop-trace l = string_bytes l.text ≡ string_bytes l.fn.text ++ (part_text Part.Storyboard ++ flat_map (start l.road) (take l.trace-index l.traces))
