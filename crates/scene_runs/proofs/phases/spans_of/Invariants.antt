use Rattle.std.proofs.Common.{◌≡◌, take, flat_map}
use Rattle.scene_slots.specs.field_flatten.Points.{slot_value}
use Rattle.scene_slots.specs.SeenSlots.{scene_of}
use Rattle.scene_runs.specs.Entries.{span_entry}
use Rattle.scene_runs.proofs.phases.spans_of.Given as goal

abbrev pub invariant-phases : goal.invariant-phases
invariant-phases l = l.spans ≡ flat_map (span_entry (scene_of l.slots) (slot_value (scene_of l.slots) l.point)) (take l.phase-index l.phases)
