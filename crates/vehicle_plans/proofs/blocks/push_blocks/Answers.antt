use Rattle.vehicle_plans.specs.VehiclePlan.{block_at}
use Rattle.vehicle_plans.proofs.Joins as Joins
use Rattle.vehicle_plans.proofs.blocks.push_blocks.Goals as goal

pub numbers-preserved : goal.numbers-preserved
numbers-preserved c = Joins.one_more (block_at c.args.grid) _ _ _ c.numbers.number c.numbers.invariant c.in_ok-push_block_at.ensures
