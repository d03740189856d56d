-- The memory shelf's fields: the place of the fetched file, and how many of its bytes were taken.
use Rattle.std.specs.Prelude.{◌≤◌, drop, length}
use Rattle.outside_io.specs.declared.memory_shelf.MemoryShelf.TheInside.{Inside}
use Rattle.outside_io.specs.Memory.{ShelfState}
use Rattle.outside_io.specs.Files.{bytes_at}

abbrev pub state_of : Inside → ShelfState
state_of s = record {
  files = s.files;
  most = s.most;
  failing = s.failing;
  left = drop s.taken (bytes_at s.files s.fetched);
  calls = s.calls;
  faults = s.faults;
}

pub record IsConsistent (s : Inside) : Type 0 where
  pub advances : 1 ≤ s.most
  pub within : s.taken ≤ length (bytes_at s.files s.fetched)
