use Rattle.std.proofs.Common.{◌∙◌, ap₂}
use Rattle.rule_parts.specs.scene_slots.SeenSlots.{layout_of}
use Rattle.vehicle_rules.specs.Limits.{limits_by}
use Rattle.vehicle_rules.proofs.motion.own_limits.Goals as goal

pub returns : goal.returns
returns c = c.limits_at-found.ensures ∙ ap₂ (limits_by (layout_of c.args.slots.now)) c.in_ok-speed.ensures c.in_ok-acceleration.ensures
