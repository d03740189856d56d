use Rattle.std.proofs.Common.{◌≡◌, ◌++◌}
use Rattle.std.specs.Prelude.{flat_map}
use Rattle.std.specs.List.{range_with_len}
use Rattle.vehicle_plans.specs.VehiclePlan.{block_at}
use Rattle.vehicle_plans.proofs.blocks.push_blocks.Given as goal

abbrev pub invariant-numbers : goal.invariant-numbers
invariant-numbers l = l.plan ≡ l.fn.plan ++ flat_map (block_at l.grid) (range_with_len 0 l.number)
