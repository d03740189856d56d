use Rattle.std.proofs.lemmas.Result.{on_ok_weaker}
use Rattle.vehicle_plans.proofs.Joins as Joins
use Rattle.vehicle_plans.proofs.plan.push_vehicles.Goals as goal

pub returns : goal.returns
returns c =
    on_ok_weaker c.push_later.result (Joins.joined_three _ _ _ _ _ _ _ c.in_ok-push_starts.ensures c.in_ok-push_blocks.ensures) c.push_later.ensures
