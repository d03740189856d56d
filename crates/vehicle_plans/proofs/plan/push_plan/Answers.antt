use Rattle.std.proofs.lemmas.Result.{on_ok_weaker}
use Rattle.vehicle_plans.specs.VehiclePlan.{values_from}
use Rattle.vehicle_plans.proofs.Joins as Joins
use Rattle.vehicle_plans.proofs.plan.push_plan.Goals as goal

pub returns : goal.returns
returns c =
    on_ok_weaker c.push_vehicles.result
    (Joins.joined_three _ _ _ _ _ _ _ (Joins.less_none (values_from 0) _ _ c.args.choices c.in_ok-push_values.ensures) c.in_ok-push_spots.ensures)
    c.push_vehicles.ensures
