use Rattle.std.proofs.Common.{◌≡◌, map, take}
use Rattle.outside_io.specs.Files.{file_of}
use Rattle.outside_io.proofs.memory_shelf.MemoryShelf.of.Given as goal

abbrev pub invariant-loop-name : goal.invariant-loop-name
invariant-loop-name l = l.row ≡ map file_of (take l.name-index l.files)
