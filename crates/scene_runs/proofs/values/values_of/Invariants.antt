use Rattle.std.proofs.Common.{◌≡◌, take, flat_map}
use Rattle.scene_slots.specs.field_flatten.Points.{slot_value}
use Rattle.scene_slots.specs.SeenSlots.{scene_of}
use Rattle.scene_runs.specs.Entries.{value_entry}
use Rattle.scene_runs.proofs.values.values_of.Given as goal

abbrev pub invariant-spots : goal.invariant-spots
invariant-spots l = l.values ≡ flat_map (value_entry (scene_of l.slots) (slot_value (scene_of l.slots) l.point)) (take l.spot-index l.spots)
