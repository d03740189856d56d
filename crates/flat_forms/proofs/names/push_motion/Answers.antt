use Rattle.std.proofs.Common.{ap}
use Rattle.osc_base.specs.declared.listing.RuleName.{RuleName}
use Rattle.flat_forms.proofs.RowSteps.{at_tick}
use Rattle.flat_forms.proofs.names.push_motion.Goals as goal

pub ticks-preserved : goal.ticks-preserved
ticks-preserved c =
    at_tick (RuleName.Motion c.args.vehicle.now) _ _ _ c.ticks.tick _ c.ticks.invariant c.in_ok-push.ensures.ok (ap (λ p. RuleName.Motion p c.ticks.tick) c.in_ok-path.ensures)
