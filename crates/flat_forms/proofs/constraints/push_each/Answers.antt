use Rattle.scene_rules.specs.composition.SeenParts.{seen_occurrence}
use Rattle.slot_ends.specs.scene_slots.SeenSlots.{scene_of}
use Rattle.flat_forms.specs.SoundParts.{is_sound_occurrence}
use Rattle.flat_forms.proofs.RowSteps.{item_of}
use Rattle.flat_forms.proofs.constraints.push_each.Goals as goal

pub push_constraint-requires-clause-sound : goal.push_constraint-requires-clause-sound
push_constraint-requires-clause-sound c =
    item_of seen_occurrence (is_sound_occurrence (scene_of c.args.slots.now)) c.args.constraints.now c.constraints.constraint-index c.constraint-item.result c.constraints-test.true c.constraint-item.is c.requires.sound
