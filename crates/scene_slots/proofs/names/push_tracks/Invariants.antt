use Rattle.std.proofs.Common.{◌≡◌, ◌++◌, take}
use Rattle.std.specs.List.{range_with_len}
use Rattle.scene_slots.specs.NameRows.{track_names}
use Rattle.scene_slots.proofs.names.push_tracks.Given as goal

abbrev pub invariant-vehicles : goal.invariant-vehicles
invariant-vehicles l = l.names ≡ l.fn.names ++ track_names (range_with_len 0 l.count) (take l.vehicle-index l.vehicles)
