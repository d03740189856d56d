use Rattle.std.proofs.Common.{◌-◌, false}
use Rattle.record_text.specs.Source.{limit, ReadsOn}
use Rattle.record_text.proofs.Rests.{SomeNodes}
use Rattle.record_text.proofs.rest.read_rest.Given as goal

abbrev pub invariant-loop-nodes : goal.invariant-loop-nodes
invariant-loop-nodes g l = record {
  nodes : SomeNodes l.initial.nodes l.nodes l.initial.reader l.reader (g.H.Shelf.left l.initial.shelf) (g.H.Shelf.left l.shelf);
  shelf : ReadsOn (g.H.Shelf.files l.initial.shelf) (g.H.Shelf.files l.shelf) (g.H.Shelf.left l.initial.shelf) (g.H.Shelf.left l.shelf) (g.H.Shelf.faults l.initial.shelf) (g.H.Shelf.faults l.shelf) false;
}

abbrev pub decreases-loop-nodes : goal.decreases-loop-nodes
decreases-loop-nodes g l = limit - l.reader.lines
