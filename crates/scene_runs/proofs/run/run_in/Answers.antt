use Rattle.std.proofs.Common.{◌∙◌, ap}
use Rattle.std.specs.List.{list_all}
use Rattle.scene_slots.specs.composition.declared.setting.Setting.{Setting}
use Rattle.scene_slots.specs.composition.Scenes.{choices, values, phases, vehicles}
use Rattle.scene_slots.specs.composition.SeenScenes.{seen_scene}
use Rattle.scene_slots.specs.field_flatten.Points.{slot_value}
use Rattle.scene_slots.specs.SeenSlots.{scene_of}
use Rattle.scene_runs.specs.Entries.{is_chosen}
use Rattle.scene_runs.proofs.EntryRows.{run_made}
use Rattle.scene_runs.proofs.SceneSizes.{few_ticks}
use Rattle.scene_runs.proofs.SlotBounds.{all_chosen}
use Rattle.scene_runs.proofs.run.run_in.Goals as goal

pub choices_of-requires : goal.choices_of-requires
choices_of-requires c =
    ap (list_all (is_chosen (slot_value (scene_of c.args.slots.now) c.args.point.now))) (c.choices.ensures ∙ ap (λ s. choices (seen_scene s)) c.scene-scene.ensures)
    ∙ all_chosen (scene_of c.args.slots.now) c.args.point.now c.requires.inside c.requires.expanded

pub traces_of-requires-clause-few : goal.traces_of-requires-clause-few
traces_of-requires-clause-few c = few_ticks (scene_of c.args.slots.now) c.requires.expanded

pub returns : goal.returns
returns c =
    run_made (scene_of c.args.slots.now) (slot_value (scene_of c.args.slots.now) c.args.point.now) _ _ _ _ _ _ _ _ _ _
    c.end_of-end.ensures.is (ap (λ (s : Setting). s.tick) (c.setting.ensures ∙ ap (λ s. (seen_scene s).setting) c.scene-scene.ensures)) c.in_ok-choices.ensures c.in_ok-phases.ensures c.in_ok-traces.ensures c.in_ok-values.ensures
    (c.choices.ensures ∙ ap (λ s. choices (seen_scene s)) c.scene-scene.ensures) (c.phases.ensures ∙ ap (λ s. phases (seen_scene s)) c.scene-scene.ensures)
    (c.vehicles.ensures ∙ ap (λ s. vehicles (seen_scene s)) c.scene-scene.ensures) (c.values.ensures ∙ ap (λ s. values (seen_scene s)) c.scene-scene.ensures)
