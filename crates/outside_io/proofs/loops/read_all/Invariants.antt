use Rattle.std.proofs.Common.{◌≡◌, ◌-◌, ◌≤◌, vec_len}
use Rattle.std.specs.Io.KnownBytes.{prepend_known}
use Rattle.outside_io.proofs.loops.read_all.Given as goal

abbrev pub invariant-loop-count : goal.invariant-loop-count
invariant-loop-count g l = record {
  within : vec_len l.bytes ≤ l.limit;
  taken : g.H.Shelf.left l.initial.shelf ≡ prepend_known l.bytes.items (g.H.Shelf.left l.shelf);
  kept : g.H.Shelf.files l.shelf ≡ g.H.Shelf.files l.initial.shelf;
  counted : g.H.Shelf.faults l.shelf ≡ g.H.Shelf.faults l.initial.shelf;
}

abbrev pub decreases-loop-count : goal.decreases-loop-count
decreases-loop-count g l = l.limit - vec_len l.bytes
