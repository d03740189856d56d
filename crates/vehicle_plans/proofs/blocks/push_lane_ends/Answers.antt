use Rattle.vehicle_plans.specs.Means.{kept}
use Rattle.vehicle_plans.specs.declared.grid.Quantity.TheVariants.{Lane}
use Rattle.vehicle_plans.proofs.Joins as Joins
use Rattle.vehicle_plans.proofs.blocks.push_lane_ends.Goals as goal

pub vehicles-preserved : goal.vehicles-preserved
vehicles-preserved c =
    Joins.one_entry (λ v. kept c.args.grid Lane v c.args.a c.args.b)
    _ _ _ _ c.vehicles.vehicle c.vehicles.invariant c.in_ok-push.ensures.ok c.kept.ensures
