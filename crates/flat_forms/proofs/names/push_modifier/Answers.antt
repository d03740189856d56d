use Rattle.std.proofs.Common.{refl}
use Rattle.osc_base.specs.declared.listing.RuleName.{RuleName}
use Rattle.flat_forms.proofs.RowSteps.{at_tick}
use Rattle.flat_forms.proofs.names.push_modifier.Goals as goal

pub ticks-preserved : goal.ticks-preserved
ticks-preserved c = at_tick (RuleName.Modifier c.args.modifier.now.place) _ _ _ c.ticks.tick _ c.ticks.invariant c.in_ok-push.ensures.ok refl
