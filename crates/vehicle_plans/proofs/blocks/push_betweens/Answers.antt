use Rattle.vehicle_plans.specs.Means.{between}
use Rattle.vehicle_plans.proofs.Joins as Joins
use Rattle.vehicle_plans.proofs.blocks.push_betweens.Goals as goal

pub vehicles-preserved : goal.vehicles-preserved
vehicles-preserved c =
    Joins.one_entry (λ v. between c.args.grid c.args.quantity v c.args.a c.args.middle c.args.b)
    _ _ _ _ c.vehicles.vehicle c.vehicles.invariant c.in_ok-push.ensures.ok c.between.ensures
