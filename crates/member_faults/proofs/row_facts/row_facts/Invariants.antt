use Rattle.std.proofs.Common.{◌≡◌, length, map}
use Rattle.type_members.specs.Listed.{seen_row}
use Rattle.type_members.specs.Shared.{fronts_in}
use Rattle.member_faults.specs.RowFacts.{AreAllSo}
use Rattle.member_faults.proofs.row_facts.row_facts.Given as goal

abbrev pub invariant-loop-row : goal.invariant-loop-row
invariant-loop-row l = record {
  count : length l.all.items ≡ l.row-index;
  so : AreAllSo l.heads (fronts_in l.rows) (map seen_row l.rows) l.all.items;
}
