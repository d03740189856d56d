use Rattle.std.proofs.Common.{◌≡◌, map, take}
use Rattle.scene_slots.specs.declared.queries.Vehicle.{Vehicle}
use Rattle.scene_slots.proofs.queries.vehicle_row.Given as goal

abbrev pub invariant-paths : goal.invariant-paths
invariant-paths l = map (λ (v : Vehicle). v.path) l.vehicles.items ≡ take l.path-index l.paths
