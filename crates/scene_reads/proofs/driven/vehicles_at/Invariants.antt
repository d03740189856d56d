use Rattle.std.proofs.Common.{◌≡◌, map, take}
use Rattle.scene_reads.specs.Vehicles.{vehicle_path}
use Rattle.scene_reads.proofs.driven.vehicles_at.Given as goal

abbrev pub invariant-loop-path : goal.invariant-loop-path
invariant-loop-path l = map vehicle_path l.vehicles.items ≡ take l.path-index l.paths
