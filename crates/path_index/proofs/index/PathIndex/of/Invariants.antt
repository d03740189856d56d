use Rattle.std.proofs.Common.{◌≡◌, ◌<◌, ◌^◌, take}
use Rattle.osc_base.specs.declared.path.Path.{Path}
use Rattle.path_index.specs.Places.{Places}
use Rattle.path_index.proofs.index.PathIndex.of.Given as goal

abbrev pub invariant-loop-thing : goal.invariant-loop-thing
invariant-loop-thing g l = record {
  count : l.place ≡ l.thing-index;
  small : l.place < 2 ^ 32;
  places : Places l.index (λ (p : Path). p) g.T.HasPath.path_of (take l.thing-index l.things);
}
