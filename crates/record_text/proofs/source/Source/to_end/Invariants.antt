use Rattle.std.proofs.Common.{◌-◌, ◌≤◌, false}
use Rattle.record_text.specs.Source.{limit, ReadsOn}
use Rattle.record_text.proofs.Reading.{IsRead}
use Rattle.record_text.proofs.source.Source.to_end.Given as goal

abbrev pub invariant-loop-byte : goal.invariant-loop-byte
invariant-loop-byte g l = record {
  grows : l.initial.self.given ≤ l.self.given;
  read : IsRead l.initial.self l.self (g.H.Shelf.left l.initial.shelf) (g.H.Shelf.left l.shelf);
  shelf : ReadsOn (g.H.Shelf.files l.initial.shelf) (g.H.Shelf.files l.shelf) (g.H.Shelf.left l.initial.shelf) (g.H.Shelf.left l.shelf) (g.H.Shelf.faults l.initial.shelf) (g.H.Shelf.faults l.shelf) false;
}

abbrev pub decreases-loop-byte : goal.decreases-loop-byte
decreases-loop-byte g l = limit - l.self.given
