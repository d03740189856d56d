use Rattle.std.proofs.Common.{◌≡◌, ◌++◌}
use Rattle.std.specs.Prelude.{flat_map}
use Rattle.std.specs.List.{range_with_len}
use Rattle.vehicle_plans.specs.VehiclePlan.{start_of}
use Rattle.vehicle_plans.proofs.starts.push_starts.Given as goal

abbrev pub invariant-vehicles : goal.invariant-vehicles
invariant-vehicles l = l.plan ≡ l.fn.plan ++ flat_map (start_of l.grid) (range_with_len 0 l.vehicle)
