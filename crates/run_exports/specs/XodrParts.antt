-- The parts of an OpenDRIVE file that are the same in each.
use Rattle.std.specs.Prelude.{ℕ, List}
use Rattle.run_exports.specs.declared.xodr_parts.Stretch.{Stretch}
use Rattle.run_exports.specs.declared.xodr_parts.TheConstants.{HEAD, PLAN, LEFT, INNER, OUTER, TAIL}

unfoldable pub stretch_text : Stretch → List ℕ
stretch_text Stretch.Head = HEAD.now
stretch_text Stretch.Plan = PLAN.now
stretch_text Stretch.Left = LEFT.now
stretch_text Stretch.Inner = INNER.now
stretch_text Stretch.Outer = OUTER.now
stretch_text Stretch.Tail = TAIL.now
