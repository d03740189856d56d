use Rattle.std.proofs.Common.{◌≡◌, ◌+◌, length, map}
use Rattle.scene_expansion.specs.SeenWorks.{seen_work}
use Rattle.scene_expansion.specs.Walks.{nodes_after, whole_after}
use Rattle.scene_expansion.proofs.walk.laid_after.Given as goal

abbrev pub invariant-loop-laid : goal.invariant-loop-laid
invariant-loop-laid g l = record {
  nodes : nodes_after (g.L.WorkLayout.types l.layout) l.done.items l.pending.items ≡ whole_after (g.L.WorkLayout.types l.layout) (seen_work l.fn.root) (map seen_work l.fn.parts.items);
  laid : length l.done.items ≡ l._laid + 1;
}
