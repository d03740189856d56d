use Rattle.std.proofs.Common.{◌≡◌, ◌++◌}
use Rattle.std.specs.Prelude.{flat_map}
use Rattle.std.specs.List.{range_with_len}
use Rattle.vehicle_plans.specs.VehiclePlan.{later_of}
use Rattle.vehicle_plans.proofs.blocks.push_path.Given as goal

abbrev pub invariant-ticks : goal.invariant-ticks
invariant-ticks l = l.plan ≡ l.fn.plan ++ flat_map (later_of l.grid l.vehicle) (range_with_len 0 l.tick)
