use Rattle.std.proofs.Common.{◌≡◌, ◌++◌}
use Rattle.std.specs.Prelude.{flat_map}
use Rattle.std.specs.List.{range_with_len}
use Rattle.vehicle_plans.specs.VehiclePlan.{end_of}
use Rattle.vehicle_plans.proofs.blocks.push_ends.Given as goal

abbrev pub invariant-vehicles : goal.invariant-vehicles
invariant-vehicles l = l.plan ≡ l.fn.plan ++ flat_map (end_of l.grid l.a l.b) (range_with_len 0 l.vehicle)
