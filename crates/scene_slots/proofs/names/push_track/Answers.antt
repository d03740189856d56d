use Rattle.scene_slots.proofs.NameSteps as Names
use Rattle.scene_slots.proofs.names.push_track.Goals as goal

pub ticks-preserved : goal.ticks-preserved
ticks-preserved c = Names.tick_named _ _ _ c.args.vehicle.now c.ticks.tick c.ticks.invariant c.in_ok-push_sample.ensures
