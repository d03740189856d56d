use Rattle.std.proofs.Common.{◌∙◌, ◌^◌, ap, length}
use Rattle.flat_shapes.specs.composition.declared.setting.Setting.{Setting}
use Rattle.flat_shapes.specs.composition.SeenScenes.{seen_scene}
use Rattle.scene_slots.proofs.QuerySteps as Steps
use Rattle.scene_slots.proofs.counts.slot_counts.Goals as goal

pub counts_of-requires-clause-few : goal.counts_of-requires-clause-few
counts_of-requires-clause-few c =
    Steps.counted_few (seen_scene c.args.scene.now) (length c.choices-choices.result.now) (length c.phases-phases.result.now) (length c.values-values.result.now) (length c.vehicles-vehicles.result.now) c.setting.result.ticks
    (ap length c.choices-choices.ensures) (ap length c.phases-phases.ensures) (ap length c.values-values.ensures) (ap length c.vehicles-vehicles.ensures)
    (ap (λ (s : Setting). s.ticks) c.setting.ensures) (2 ^ 32) c.requires.few

pub returns-clause-past : goal.returns-clause-past
returns-clause-past c =
    c.counts_of.ensures.past
    ∙ Steps.counted (seen_scene c.args.scene.now) (length c.choices-choices.result.now) (length c.phases-phases.result.now) (length c.values-values.result.now) (length c.vehicles-vehicles.result.now) c.setting.result.ticks
    (ap length c.choices-choices.ensures) (ap length c.phases-phases.ensures) (ap length c.values-values.ensures) (ap length c.vehicles-vehicles.ensures)
    (ap (λ (s : Setting). s.ticks) c.setting.ensures)
