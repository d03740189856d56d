use Rattle.std.proofs.Common.{ap, ◌+◌}
use Rattle.flat_shapes.specs.composition.declared.setting.Setting.{Setting}
use Rattle.flat_shapes.specs.composition.SeenScenes.{seen_scene}
use Rattle.scene_slots.proofs.NameSteps as Names
use Rattle.scene_slots.proofs.names.slot_names.Goals as goal

pub returns : goal.returns
returns c =
    Names.all_names (seen_scene c.args.scene.now) _ _ _ _ _ _ _ _ _ _ c.new-names.ensures c.in_ok-push_choices.ensures c.in_ok-push_phases.ensures c.in_ok-push_values.ensures c.in_ok-push_tracks.ensures
    c.choices.ensures c.phases.ensures c.values.ensures c.vehicles.ensures (ap (λ (s : Setting). s.ticks + 1) c.setting.ensures)
