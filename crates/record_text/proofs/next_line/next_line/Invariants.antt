use Rattle.std.proofs.Common.{◌-◌, ◌≤◌, false}
use Rattle.record_text.specs.Source.{limit, ReadsOn}
use Rattle.record_text.proofs.Lines.{IsHeld}
use Rattle.record_text.proofs.next_line.next_line.Given as goal

abbrev pub invariant-loop-byte : goal.invariant-loop-byte
invariant-loop-byte g l = record {
  grows : l.initial.source.given ≤ l.source.given;
  read : IsHeld l.held.items l.initial.source l.source (g.H.Shelf.left l.initial.shelf) (g.H.Shelf.left l.shelf);
  shelf : ReadsOn (g.H.Shelf.files l.initial.shelf) (g.H.Shelf.files l.shelf) (g.H.Shelf.left l.initial.shelf) (g.H.Shelf.left l.shelf) (g.H.Shelf.faults l.initial.shelf) (g.H.Shelf.faults l.shelf) false;
}

abbrev pub decreases-loop-byte : goal.decreases-loop-byte
decreases-loop-byte g l = limit - l.source.given
