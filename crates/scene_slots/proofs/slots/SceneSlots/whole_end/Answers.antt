use Rattle.std.proofs.Common.{◌∙◌, ◌^◌, ◌+◌, ◌*◌, ap, ap₂, arith}
use Rattle.std.specs.Prelude.{option_map}
use Rattle.flat_shapes.specs.composition.Scenes.{root_do}
use Rattle.flat_shapes.specs.composition.SeenScenes.{seen_scene}
use Rattle.scene_slots.specs.Places.{phase_place}
use Rattle.scene_slots.proofs.QuerySteps as Steps
use Rattle.scene_slots.proofs.slots.SceneSlots.whole_end.Goals as goal

pub end_of-requires : goal.end_of-requires
end_of-requires c =
    Steps.phase_room (seen_scene c.args.self.now.scene.now) root_do (2 ^ 32) c.args.self.now.few 1 (omega arith) c.args.self.now.counts.first_phase c.args.self.now.phases_from c.get.result
    (c.get.ensures ∙ c.args.self.now.phases_at c.args.self.now.root ∙ ap (phase_place (seen_scene c.args.self.now.scene.now)) c.args.self.now.root_is)

pub returns : goal.returns
returns c =
    c.end_of.ensures
    ∙ ap₂ (λ first place. option_map (λ i. first + i * 2 + 1) place) c.args.self.now.phases_from (c.get.ensures ∙ c.args.self.now.phases_at c.args.self.now.root ∙ ap (phase_place (seen_scene c.args.self.now.scene.now)) c.args.self.now.root_is)
