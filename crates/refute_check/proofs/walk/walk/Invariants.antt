use Rattle.std.proofs.Common.{◌-◌, false}
use Rattle.record_text.specs.Source.{limit, ReadsOn}
use Rattle.refute_check.specs.Walk.{AreSums}
use Rattle.refute_check.proofs.Walking.{IsWalking}
use Rattle.refute_check.proofs.walk.walk.Given as goal

abbrev pub invariant-loop-nodes : goal.invariant-loop-nodes
invariant-loop-nodes g l = record {
  walking : IsWalking l.flat l.initial.trail.room l.initial.nodes l.nodes l.initial.reader l.reader (g.H.Shelf.left l.initial.shelf) (g.H.Shelf.left l.shelf) l.trail l.stack;
  shelf : ReadsOn (g.H.Shelf.files l.initial.shelf) (g.H.Shelf.files l.shelf) (g.H.Shelf.left l.initial.shelf) (g.H.Shelf.left l.shelf) (g.H.Shelf.faults l.initial.shelf) (g.H.Shelf.faults l.shelf) false;
  sums : AreSums l.flat l.sums;
}

abbrev pub decreases-loop-nodes : goal.decreases-loop-nodes
decreases-loop-nodes g l = limit - l.reader.lines
