use Rattle.std.proofs.Common.{◌∙◌, ◌^◌, ◌≤◌, ap, arith}
use Rattle.scene_slots.specs.field_flatten.Points.{slot_value, sample_named}
use Rattle.scene_slots.specs.SeenSlots.{scene_of}
use Rattle.scene_runs.specs.Entries.{sample_by}
use Rattle.scene_runs.proofs.EntryRows.{one_tick_more, track_room}
use Rattle.scene_runs.proofs.traces.samples_of.Goals as goal

pub at-requires : goal.at-requires
at-requires c =
    let small : c.ticks.tick ≤ (scene_of c.args.slots.now).setting.ticks = omega (arith, c.ticks-test.true, c.requires.within) in
    track_room c.track-track.result c.ticks.tick (scene_of c.args.slots.now).setting.ticks (2 ^ 32) small c.track-track.ensures.small

pub ticks-preserved : goal.ticks-preserved
ticks-preserved c =
    let small : c.ticks.tick ≤ (scene_of c.args.slots.now).setting.ticks = omega (arith, c.ticks-test.true, c.requires.within) in
    one_tick_more (sample_named (slot_value (scene_of c.args.slots.now) c.args.point.now) c.args.vehicle.now) _ _ c.ticks.tick _ c.ticks.invariant c.in_ok-push.ensures.ok
    (c.sample_in.ensures ∙ ap (sample_by c.args.point.now) (c.at.ensures ∙ c.track-track.ensures.slots c.ticks.tick small))
