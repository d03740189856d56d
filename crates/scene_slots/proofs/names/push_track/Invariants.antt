use Rattle.std.proofs.Common.{◌≡◌, ◌++◌, flat_map}
use Rattle.std.specs.List.{range_with_len}
use Rattle.flat_shapes.specs.composition.Slots.{sample_names}
use Rattle.scene_slots.proofs.names.push_track.Given as goal

abbrev pub invariant-ticks : goal.invariant-ticks
invariant-ticks l = l.names ≡ l.fn.names ++ flat_map (sample_names l.vehicle) (range_with_len 0 l.tick)
