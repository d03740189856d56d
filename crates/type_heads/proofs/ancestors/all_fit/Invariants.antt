use Rattle.std.proofs.Common.{◌≡◌, drop}
use Rattle.std.specs.List.{list_all}
use Rattle.type_heads.specs.Ancestors.{entry_fits}
use Rattle.type_heads.specs.Table.{all_types, numbers_from}
use Rattle.type_heads.proofs.ancestors.all_fit.Given as goal

abbrev pub invariant-loop-head : goal.invariant-loop-head
invariant-loop-head l = record {
  count : l.number ≡ l._head-index;
  rest : list_all (entry_fits l.heads l.entries) (all_types l.heads) ≡ list_all (entry_fits l.heads l.entries) (numbers_from l.number (drop l._head-index l.heads));
}
