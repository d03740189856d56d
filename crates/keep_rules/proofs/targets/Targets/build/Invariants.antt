use Rattle.std.proofs.Common.{◌≡◌, [], Some, take}
use Rattle.path_index.specs.osc_base.declared.path.Path.{Path}
use Rattle.keep_rules.specs.Overriding.{with_target}
use Rattle.keep_rules.specs.TargetRows.{row_at}
use Rattle.keep_rules.proofs.OwnPlaces.{owns_from}
use Rattle.keep_rules.proofs.targets.Targets.build.Given as goal

abbrev pub invariant-loop-mark : goal.invariant-loop-mark
invariant-loop-mark l = record {
  count : l.number ≡ l.mark-index;
  rows : (path : Path) → row_at l.rows path ≡ with_target (Some path) 0 (take l.mark-index l.marks);
  owns : l.owns ≡ owns_from [] (take l.mark-index l.marks);
}
