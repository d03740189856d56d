use Rattle.std.proofs.Common.{◌≡◌, drop}
use Rattle.name_scope.specs.FileNumbers.{first_mention}
use Rattle.name_scope.specs.Wanted.{file_name}
use Rattle.name_scope.proofs.program.place_in.Given as goal

abbrev pub invariant-loop-source : goal.invariant-loop-source
invariant-loop-source l = first_mention (file_name l.wanted) l.sources ≡ first_mention (file_name l.wanted) (drop l.source-index l.sources)
