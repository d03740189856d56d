use Rattle.scene_slots.specs.field_flatten.Points.{slot_value}
use Rattle.scene_slots.specs.SeenSlots.{scene_of}
use Rattle.scene_runs.specs.Entries.{is_chosen}
use Rattle.scene_runs.proofs.EntryRows.{item_of}
use Rattle.scene_runs.proofs.choices.choices_of.Goals as goal

pub push_choice-requires : goal.push_choice-requires
push_choice-requires c =
    item_of (is_chosen (slot_value (scene_of c.args.slots.now) c.args.point.now)) c.args.spots.now c.spots.spot-index c.spot-item.result c.spots-test.true c.spot-item.is c.requires
