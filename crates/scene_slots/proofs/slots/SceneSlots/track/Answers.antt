use Rattle.std.proofs.Common.{◌∙◌, ◌^◌}
use Rattle.flat_shapes.specs.composition.SeenScenes.{seen_scene}
use Rattle.scene_slots.proofs.QuerySteps as Steps
use Rattle.scene_slots.proofs.slots.SceneSlots.track.Goals as goal

pub track_of-requires : goal.track_of-requires
track_of-requires c =
    Steps.track_if (seen_scene c.args.self.now.scene.now) c.args.path.now (2 ^ 32) c.args.self.now.few c.args.self.now.counts.first_sample c.args.self.now.counts.track c.get.result c.args.self.now.samples_from c.args.self.now.tracks_have
    (c.get.ensures ∙ c.args.self.now.vehicles_at c.args.path.now)

pub returns-clause-slots : goal.returns-clause-slots
returns-clause-slots c = Steps.track_is (seen_scene c.args.self.now.scene.now) c.args.path.now c.args.self.now.counts.past c.args.self.now.counts.first_sample c.args.self.now.counts.track c.get.result c.track_of.result c.track_of.ensures c.args.self.now.past_is c.args.self.now.samples_from c.args.self.now.tracks_have (c.get.ensures ∙ c.args.self.now.vehicles_at c.args.path.now)

pub returns-clause-small : goal.returns-clause-small
returns-clause-small c = Steps.track_small (seen_scene c.args.self.now.scene.now) c.args.path.now (2 ^ 32) c.args.self.now.few c.args.self.now.counts.past c.args.self.now.counts.first_sample c.args.self.now.counts.track c.get.result c.track_of.result c.track_of.ensures c.args.self.now.past_is c.args.self.now.samples_from c.args.self.now.tracks_have (c.get.ensures ∙ c.args.self.now.vehicles_at c.args.path.now)
