use Rattle.vehicle_plans.specs.VehiclePlan.{end_of}
use Rattle.vehicle_plans.proofs.Joins as Joins
use Rattle.vehicle_plans.proofs.blocks.push_ends.Goals as goal

pub vehicles-preserved : goal.vehicles-preserved
vehicles-preserved c = Joins.one_more (end_of c.args.grid c.args.a c.args.b) _ _ _ c.vehicles.vehicle c.vehicles.invariant c.in_ok-push_end.ensures
