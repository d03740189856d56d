use Rattle.std.proofs.Common.{◌≡◌, ℕ, List, drop, take}
use Rattle.type_heads.specs.EnumNames.{hit_in}
use Rattle.type_heads.specs.Shown.{hit_of}
use Rattle.type_heads.specs.Table.{enums_with}
use Rattle.type_heads.proofs.Hits.{hit_after}
use Rattle.type_heads.proofs.EnumTables.{AreTables, enums_from}
use Rattle.type_heads.proofs.enum_index.EnumIndex.of.Given as goal

abbrev pub invariant-loop-head : goal.invariant-loop-head
invariant-loop-head l = record {
  count : l.number ≡ l.head-index;
  tables : AreTables l.tables.items (take l.head-index l.heads);
  hits : (name : List ℕ) → hit_of (enums_with l.heads name) ≡ hit_after (hit_in l.hits name) (enums_from l.heads name l.number (drop l.head-index l.heads));
}
