use Rattle.std.proofs.lemmas.Result.{on_ok_weaker}
use Rattle.vehicle_plans.proofs.Joins as Joins
use Rattle.vehicle_plans.proofs.blocks.push_lanes.Goals as goal

pub returns : goal.returns
returns c = on_ok_weaker c.push_inner.result (Joins.joined _ _ _ _ _ c.in_ok-push_lane_ends.ensures) c.push_inner.ensures
