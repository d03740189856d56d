use Rattle.scene_rules.specs.composition.SeenParts.{seen_modifier}
use Rattle.slot_ends.specs.scene_slots.SeenSlots.{scene_of}
use Rattle.flat_forms.specs.SoundParts.{is_sound_modifier}
use Rattle.flat_forms.proofs.RowSteps.{item_of}
use Rattle.flat_forms.proofs.SceneParts.{modifier_parts}
use Rattle.flat_forms.proofs.rules.push_modifiers.Goals as goal

pub modifier_rules-requires-clause-sound : goal.modifier_rules-requires-clause-sound
modifier_rules-requires-clause-sound c = (modifier_parts (scene_of c.args.slots.now) (seen_modifier c.modifier-item.result)
    (item_of seen_modifier (is_sound_modifier (scene_of c.args.slots.now)) c.args.modifiers.now c.modifiers.modifier-index c.modifier-item.result c.modifiers-test.true c.modifier-item.is c.requires.sound)).sound

pub modifier_rules-requires-clause-narrow : goal.modifier_rules-requires-clause-narrow
modifier_rules-requires-clause-narrow c = (modifier_parts (scene_of c.args.slots.now) (seen_modifier c.modifier-item.result)
    (item_of seen_modifier (is_sound_modifier (scene_of c.args.slots.now)) c.args.modifiers.now c.modifiers.modifier-index c.modifier-item.result c.modifiers-test.true c.modifier-item.is c.requires.sound)).narrow

pub modifier_rules-requires-clause-low : goal.modifier_rules-requires-clause-low
modifier_rules-requires-clause-low c = (modifier_parts (scene_of c.args.slots.now) (seen_modifier c.modifier-item.result)
    (item_of seen_modifier (is_sound_modifier (scene_of c.args.slots.now)) c.args.modifiers.now c.modifiers.modifier-index c.modifier-item.result c.modifiers-test.true c.modifier-item.is c.requires.sound)).low

pub modifier_rules-requires-clause-high : goal.modifier_rules-requires-clause-high
modifier_rules-requires-clause-high c = (modifier_parts (scene_of c.args.slots.now) (seen_modifier c.modifier-item.result)
    (item_of seen_modifier (is_sound_modifier (scene_of c.args.slots.now)) c.args.modifiers.now c.modifiers.modifier-index c.modifier-item.result c.modifiers-test.true c.modifier-item.is c.requires.sound)).high
