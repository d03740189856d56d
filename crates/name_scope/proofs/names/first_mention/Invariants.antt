use Rattle.std.proofs.Common.{◌≡◌, drop}
use Rattle.name_scope.specs.FileNumbers.{first_mention_in}
use Rattle.name_scope.specs.Wanted.{file_name}
use Rattle.name_scope.proofs.names.first_mention.Given as goal

abbrev pub invariant-loop-import : goal.invariant-loop-import
invariant-loop-import l = first_mention_in (file_name l.wanted) l.imports ≡ first_mention_in (file_name l.wanted) (drop l.import-index l.imports)
