use Rattle.std.proofs.Common.{◌≡◌, drop, length}
use Rattle.fault_sets.specs.Ranking.{level_from}
use Rattle.fault_sets.proofs.returning.all_level.Given as goal

abbrev pub invariant-loop-row : goal.invariant-loop-row
invariant-loop-row l = record {
  count : l.number ≡ l.row-index;
  rest : level_from (length l.next) l.ranks 0 l.next ≡ level_from (length l.next) l.ranks l.number (drop l.row-index l.next);
}
