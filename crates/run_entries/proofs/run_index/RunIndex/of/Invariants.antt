use Rattle.std.proofs.Common.{◌≡◌, ◌<◌, ◌^◌, take}
use Rattle.run_entries.specs.RunPlaces.{RunPlaces}
use Rattle.run_entries.proofs.run_index.RunIndex.of.Given as goal

abbrev pub invariant-loop-thing : goal.invariant-loop-thing
invariant-loop-thing g l = record {
  count : l.place ≡ l.thing-index;
  small : l.place < 2 ^ 32;
  places : RunPlaces l.index g.T.HasPath.path_of (take l.thing-index l.things);
}
