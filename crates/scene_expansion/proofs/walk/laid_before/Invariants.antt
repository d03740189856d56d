use Rattle.std.proofs.Common.{◌≡◌, ◌+◌, length, map}
use Rattle.scene_expansion.specs.SeenWorks.{seen_work}
use Rattle.scene_expansion.specs.Walks.{nodes_before, whole_before}
use Rattle.scene_expansion.proofs.walk.laid_before.Given as goal

abbrev pub invariant-loop-laid : goal.invariant-loop-laid
invariant-loop-laid g l = record {
  nodes : nodes_before (g.L.WorkLayout.types l.layout) l.done.items l.pending.items ≡ whole_before (g.L.WorkLayout.types l.layout) (seen_work l.fn.root) (map seen_work l.fn.parts.items);
  laid : length l.done.items ≡ l._laid + 1;
}
