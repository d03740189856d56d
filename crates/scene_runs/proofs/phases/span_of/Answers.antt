use Rattle.std.proofs.Common.{◌∙◌, ap, w64}
use Rattle.scene_slots.specs.composition.declared.setting.Setting.{Setting}
use Rattle.scene_slots.specs.composition.SeenScenes.{seen_scene}
use Rattle.std.proofs.lemmas.Int.{to_z-of_z}
use Rattle.scene_slots.specs.SeenSlots.{scene_of}
use Rattle.scene_runs.proofs.SlotBounds as Slots
use Rattle.scene_runs.proofs.phases.span_of.Goals as goal

pub counted-start-requires-clause-low : goal.counted-start-requires-clause-low
counted-start-requires-clause-low c =
    Slots.start_low (scene_of c.args.slots.now) c.args.point.now c.requires c.args.phase.now c.start.result _
    (to_z-of_z w64 c.number_in.result (record { sfits = c.number_in.type_inv }) ∙ c.number_in.ensures) c.start.ensures

pub counted-start-requires-clause-high : goal.counted-start-requires-clause-high
counted-start-requires-clause-high c =
    Slots.start_high (scene_of c.args.slots.now) c.args.point.now c.requires c.args.phase.now c.start.result _
    (to_z-of_z w64 c.number_in.result (record { sfits = c.number_in.type_inv }) ∙ c.number_in.ensures) c.start.ensures
    c.setting-ticks.result.ticks (ap (λ (s : Setting). s.ticks) (c.setting-ticks.ensures ∙ ap (λ s. (seen_scene s).setting) c.scene.ensures))

pub counted-end-requires-clause-low : goal.counted-end-requires-clause-low
counted-end-requires-clause-low c =
    Slots.end_low (scene_of c.args.slots.now) c.args.point.now c.requires c.args.phase.now c.end.result _
    (to_z-of_z w64 c.number_in-2.result (record { sfits = c.number_in-2.type_inv }) ∙ c.number_in-2.ensures) c.end.ensures

pub counted-end-requires-clause-high : goal.counted-end-requires-clause-high
counted-end-requires-clause-high c =
    Slots.end_high (scene_of c.args.slots.now) c.args.point.now c.requires c.args.phase.now c.end.result _
    (to_z-of_z w64 c.number_in-2.result (record { sfits = c.number_in-2.type_inv }) ∙ c.number_in-2.ensures) c.end.ensures
    c.setting-ticks.result.ticks (ap (λ (s : Setting). s.ticks) (c.setting-ticks.ensures ∙ ap (λ s. (seen_scene s).setting) c.scene.ensures))
