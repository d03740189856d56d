use Rattle.std.proofs.Common.{◌≡◌, take, flat_map}
use Rattle.scene_slots.specs.field_flatten.Points.{slot_value}
use Rattle.scene_slots.specs.SeenSlots.{scene_of}
use Rattle.scene_runs.specs.Entries.{trace_entry}
use Rattle.scene_runs.proofs.traces.traces_of.Given as goal

abbrev pub invariant-vehicles : goal.invariant-vehicles
invariant-vehicles l = l.traces ≡ flat_map (trace_entry (scene_of l.slots) (slot_value (scene_of l.slots) l.point) l.end) (take l.vehicle-index l.vehicles)
