use Rattle.rule_parts.specs.composition.SeenParts.{seen_occurrence}
use Rattle.rule_parts.specs.scene_slots.SeenSlots.{scene_of}
use Rattle.scene_rules.proofs.Rooms.{occurrence_room}
use Rattle.scene_rules.proofs.constraints.hard_rule.Goals as goal

pub typed_rule-requires : goal.typed_rule-requires
typed_rule-requires c = occurrence_room (scene_of c.args.slots.now) (seen_occurrence c.args.occurrence.now) c.args.occurrence.now.mark.strength c.requires.sound c.requires.values
