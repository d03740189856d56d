use Rattle.std.proofs.Common.{◌≡◌, false, take}
use Rattle.scene_expansion.specs.AllCounts.{all_counts, are_past}
use Rattle.scene_expansion.specs.Walks.{nodes_done}
use Rattle.scene_expansion.proofs.limits.pass_limits.Given as goal

abbrev pub invariant-loop-work : goal.invariant-loop-work
invariant-loop-work g l = record {
  counted : l.all ≡ all_counts l.last (nodes_done (g.L.WorkLayout.types l.layout) (take l.work-index l.works));
  within : are_past l.all ≡ false;
}
