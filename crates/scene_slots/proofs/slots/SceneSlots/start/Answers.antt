use Rattle.std.proofs.Common.{◌∙◌, ◌^◌, arith}
use Rattle.flat_shapes.specs.composition.SeenScenes.{seen_scene}
use Rattle.scene_slots.proofs.QuerySteps as Steps
use Rattle.scene_slots.proofs.slots.SceneSlots.start.Goals as goal

pub returns : goal.returns
returns c =
    Steps.start_is (seen_scene c.args.self.now.scene.now) c.args.path.now c.args.self.now.counts.past c.args.self.now.counts.first_phase c.slot_after.result c.get.result
    c.slot_after.ensures c.args.self.now.past_is c.args.self.now.phases_from (c.get.ensures ∙ c.args.self.now.phases_at c.args.path.now)

pub slot_after-requires : goal.slot_after-requires
slot_after-requires c = Steps.phase_room (seen_scene c.args.self.now.scene.now) c.args.path.now (2 ^ 32) c.args.self.now.few 0 (omega arith) c.args.self.now.counts.first_phase c.args.self.now.phases_from c.get.result (c.get.ensures ∙ c.args.self.now.phases_at c.args.path.now)
