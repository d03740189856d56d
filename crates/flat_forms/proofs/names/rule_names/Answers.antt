use Rattle.std.proofs.Common.{◌∙◌, ap, ◌+◌, ◌++◌, map}
use Rattle.std.specs.List.{range_with_len}
use Rattle.scene_rules.specs.composition.declared.setting.Setting.{Setting}
use Rattle.scene_rules.specs.composition.Items.{item_name, occurrence_items}
use Rattle.scene_rules.specs.composition.SeenScenes.{seen_scene}
use Rattle.flat_forms.proofs.ItemRows.{all_made}
use Rattle.flat_forms.proofs.names.rule_names.Goals as goal

pub returns : goal.returns
returns c =
    all_made item_name (seen_scene c.args.scene.now) _ _ _ _ _ _ _ _ _ _ _
    c.new-names.ensures (c.in_ok-push_constraints.ensures (seen_scene c.args.scene.now) ∙ ap (λ os. c.new-names.result ++ map item_name (occurrence_items (seen_scene c.args.scene.now) 0 os)) (c.occurrences.ensures))
    c.in_ok-push_enums.ensures c.in_ok-push_phases.ensures c.in_ok-push_modifiers.ensures c.in_ok-push_motions.ensures
    c.values.ensures c.phases.ensures c.modifiers.ensures c.vehicles.ensures (ap (λ (s : Setting). range_with_len 0 (s.ticks + 1)) c.setting-count.ensures)
