use Rattle.std.proofs.Common.{◌∙◌}
use Rattle.rule_parts.specs.scene_slots.SeenSlots.{scene_of}
use Rattle.vehicle_rules.proofs.RunEnds.{end_is}
use Rattle.vehicle_rules.proofs.motion.run_end.Goals as goal

pub returns : goal.returns
returns c = c.end_term.ensures ∙ end_is (scene_of c.args.slots.now) c.whole_end.result c.whole_end.ensures
