use Rattle.std.proofs.Common.{◌∙◌, ◌^◌}
use Rattle.rule_parts.specs.scene_slots.SeenSlots.{scene_of}
use Rattle.vehicle_rules.proofs.TickRows.{track_room}
use Rattle.vehicle_rules.proofs.modifiers.slots_at.Goals as goal

pub at-requires : goal.at-requires
at-requires c = track_room c.track.result c.args.tick (scene_of c.args.slots.now).setting.ticks (2 ^ 32) c.requires c.track.ensures.small

pub returns : goal.returns
returns c = c.at.ensures ∙ c.track.ensures.slots c.args.tick c.requires
