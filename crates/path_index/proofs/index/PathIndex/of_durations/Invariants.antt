use Rattle.std.proofs.Common.{◌≡◌, ◌<◌, ◌^◌, take}
use Rattle.osc_base.specs.Paths.{then_duration}
use Rattle.path_index.specs.Places.{Places}
use Rattle.path_index.proofs.index.PathIndex.of_durations.Given as goal

abbrev pub invariant-loop-thing : goal.invariant-loop-thing
invariant-loop-thing g l = record {
  count : l.place ≡ l.thing-index;
  small : l.place < 2 ^ 32;
  places : Places l.index (then_duration) g.T.HasPath.path_of (take l.thing-index l.things);
}
