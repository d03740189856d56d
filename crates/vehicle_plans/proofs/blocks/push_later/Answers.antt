use Rattle.vehicle_plans.specs.VehiclePlan.{path_of}
use Rattle.vehicle_plans.proofs.Joins as Joins
use Rattle.vehicle_plans.proofs.blocks.push_later.Goals as goal

pub vehicles-preserved : goal.vehicles-preserved
vehicles-preserved c = Joins.one_more (path_of c.args.grid) _ _ _ c.vehicles.vehicle c.vehicles.invariant c.in_ok-push_path.ensures
