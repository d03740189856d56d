use Rattle.std.proofs.Common.{◌≡◌, drop, option_copied}
use Rattle.name_scope.specs.Declaring.{found_from}
use Rattle.name_scope.proofs.find.find_in.Given as goal

abbrev pub invariant-loop-source : goal.invariant-loop-source
invariant-loop-source l = record {
  count : l.number ≡ l.source-index;
  rest : found_from 0 l.kind (option_copied l.owner) l.name l.sources ≡ found_from l.number l.kind (option_copied l.owner) l.name (drop l.source-index l.sources);
}
