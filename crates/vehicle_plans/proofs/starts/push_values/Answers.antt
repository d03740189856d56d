use Rattle.std.proofs.Common.{◌+◌}
use Rattle.vehicle_plans.specs.Means.{even}
use Rattle.vehicle_plans.proofs.Joins as Joins
use Rattle.vehicle_plans.proofs.starts.push_values.Goals as goal

pub slots-preserved : goal.slots-preserved
slots-preserved c =
    Joins.one_entry (λ k. even (c.args.first + k) 1)
    _ _ _ _ c.slots.place c.slots.invariant c.in_ok-push.ensures.ok c.even.ensures
