use Rattle.scene_rules.specs.composition.SeenParts.{seen_occurrence}
use Rattle.slot_ends.specs.scene_slots.SeenSlots.{scene_of}
use Rattle.flat_forms.proofs.SceneParts.{occurrence_sound, occurrence_values}
use Rattle.flat_forms.proofs.constraints.push_constraint.Goals as goal

pub hard_rule-requires-clause-sound : goal.hard_rule-requires-clause-sound
hard_rule-requires-clause-sound c = occurrence_sound (scene_of c.args.slots.now) (seen_occurrence c.args.constraint.now) c.requires.sound

pub hard_rule-requires-clause-values : goal.hard_rule-requires-clause-values
hard_rule-requires-clause-values c = occurrence_values (scene_of c.args.slots.now) (seen_occurrence c.args.constraint.now) c.requires.sound

pub default_rule-requires-clause-sound : goal.default_rule-requires-clause-sound
default_rule-requires-clause-sound c = occurrence_sound (scene_of c.args.slots.now) (seen_occurrence c.args.constraint.now) c.requires.sound

pub default_rule-requires-clause-values : goal.default_rule-requires-clause-values
default_rule-requires-clause-values c = occurrence_values (scene_of c.args.slots.now) (seen_occurrence c.args.constraint.now) c.requires.sound
