use Rattle.std.proofs.lemmas.Result.{on_ok_weaker}
use Rattle.vehicle_plans.proofs.Joins as Joins
use Rattle.vehicle_plans.proofs.plan.push_spots.Goals as goal

pub returns : goal.returns
returns c = on_ok_weaker c.push_values.result (Joins.after_one _ _ _ _ _ _ c.in_ok-push.ensures.ok c.first_place.ensures) c.push_values.ensures
