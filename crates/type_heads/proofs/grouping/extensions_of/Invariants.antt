use Rattle.std.proofs.Common.{◌≡◌, List, length, take}
use Rattle.type_heads.specs.Table.{TypeHead}
use Rattle.type_heads.specs.Grouped.{AreGrouped, IsIndex}
use Rattle.type_heads.proofs.grouping.extensions_of.Given as goal

abbrev pub invariant-loop-declaration : goal.invariant-loop-declaration
invariant-loop-declaration l = record {
  count : length l.added.items ≡ l.count;
  grouped : (heads : List TypeHead) → IsIndex l.names heads →
      AreGrouped heads l.count (take l.declaration-index l.placed) l.added.items;
}
