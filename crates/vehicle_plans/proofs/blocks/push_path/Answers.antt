use Rattle.std.proofs.Common.{◌+◌}
use Rattle.vehicle_plans.specs.Means.{kept}
use Rattle.vehicle_plans.specs.declared.grid.Quantity.TheVariants.{Position}
use Rattle.vehicle_plans.proofs.Joins as Joins
use Rattle.vehicle_plans.proofs.blocks.push_path.Goals as goal

pub ticks-preserved : goal.ticks-preserved
ticks-preserved c =
    Joins.one_entry (λ t. kept c.args.grid Position c.args.vehicle t (t + 1))
    _ _ _ _ c.ticks.tick c.ticks.invariant c.in_ok-push.ensures.ok c.kept.ensures
