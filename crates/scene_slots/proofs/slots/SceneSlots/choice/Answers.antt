use Rattle.std.proofs.Common.{◌∙◌, ◌^◌}
use Rattle.flat_shapes.specs.composition.SeenScenes.{seen_scene}
use Rattle.scene_slots.proofs.QuerySteps as Steps
use Rattle.scene_slots.proofs.slots.SceneSlots.choice.Goals as goal

pub returns : goal.returns
returns c =
    Steps.choice_is (seen_scene c.args.self.now.scene.now) c.args.path.now c.args.self.now.counts.past c.slot_after.result c.get.result
    c.slot_after.ensures c.args.self.now.past_is (c.get.ensures ∙ c.args.self.now.choices_at c.args.path.now)

pub slot_after-requires : goal.slot_after-requires
slot_after-requires c = Steps.choice_room (seen_scene c.args.self.now.scene.now) c.args.path.now (2 ^ 32) c.args.self.now.few c.get.result (c.get.ensures ∙ c.args.self.now.choices_at c.args.path.now)
