use Rattle.std.proofs.Common.{◌≡◌, take, flat_map}
use Rattle.scene_slots.specs.field_flatten.Points.{slot_value}
use Rattle.scene_slots.specs.SeenSlots.{scene_of}
use Rattle.scene_runs.specs.Entries.{choice_entry}
use Rattle.scene_runs.proofs.choices.choices_of.Given as goal

abbrev pub invariant-spots : goal.invariant-spots
invariant-spots l = l.choices ≡ flat_map (choice_entry (scene_of l.slots) (slot_value (scene_of l.slots) l.point)) (take l.spot-index l.spots)
