use Rattle.vehicle_plans.specs.VehiclePlan.{start_of}
use Rattle.vehicle_plans.proofs.Joins as Joins
use Rattle.vehicle_plans.proofs.starts.push_starts.Goals as goal

pub vehicles-preserved : goal.vehicles-preserved
vehicles-preserved c = Joins.one_more (start_of c.args.grid) _ _ _ c.vehicles.vehicle c.vehicles.invariant c.in_ok-push_start.ensures
