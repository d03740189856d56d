use Rattle.std.proofs.Common.{◌≡◌, map}
use Rattle.std.specs.List.{range_with_len}
use Rattle.scene_slots.specs.field_flatten.Points.{slot_value, sample_named}
use Rattle.scene_slots.specs.SeenSlots.{scene_of}
use Rattle.scene_runs.proofs.traces.samples_of.Given as goal

abbrev pub invariant-ticks : goal.invariant-ticks
invariant-ticks l = l.samples ≡ map (sample_named (slot_value (scene_of l.slots) l.point) l.vehicle) (range_with_len 0 l.tick)
