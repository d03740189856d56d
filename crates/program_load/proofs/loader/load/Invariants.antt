use Rattle.std.proofs.Common.{◌≡◌, ◌-◌, length}
use Rattle.name_scope.specs.FileNumbers.{wanted_name}
use Rattle.program_load.specs.Loading.{next_name}
use Rattle.program_load.proofs.Invariant.{Loads}
use Rattle.program_load.proofs.loader.load.Given as goal

abbrev pub invariant-loop-program : goal.invariant-loop-program
invariant-loop-program g l = record {
  loads : Loads (g.H.Shelf.files l.fn.shelf) l.fn.main l.program;
  begun : next_name l.fn.main l.program ≡ wanted_name l.program;
  steady : g.H.Shelf.faults l.shelf ≡ g.H.Shelf.faults l.fn.shelf;
  kept : g.H.Shelf.files l.shelf ≡ g.H.Shelf.files l.fn.shelf;
}

abbrev pub decreases-loop-program : goal.decreases-loop-program
decreases-loop-program g l = 64 - length l.program
