use Rattle.vehicle_plans.proofs.Joins as Joins
use Rattle.vehicle_plans.proofs.blocks.push_halves.Goals as goal

pub returns : goal.returns
returns c = Joins.joined _ _ _ _ _ c.in_ok-push_inner.ensures c.in_ok-push_inner-2.ensures
