use Rattle.std.proofs.Common.{◌∙◌, ap, refl, map}
use Rattle.std.specs.List.{list_all}
use Rattle.box_eval.specs.FlatRules.{flat_rule}
use Rattle.scene_rules.specs.composition.Scenes.{values, phases, vehicles}
use Rattle.scene_rules.specs.composition.SeenScenes.{seen_scene}
use Rattle.scene_rules.specs.composition.Slots.{ticks_of}
use Rattle.slot_ends.specs.field_flatten.Rules.{item_rule}
use Rattle.flat_forms.specs.SoundParts.{is_sound_modifier}
use Rattle.slot_ends.specs.scene_slots.SeenSlots.{scene_of, layout_of}
use Rattle.flat_forms.proofs.ItemRows.{all_made}
use Rattle.flat_forms.proofs.rules.rules_over.Goals as goal

pub push_modifiers-requires-clause-sound : goal.push_modifiers-requires-clause-sound
push_modifiers-requires-clause-sound c =
    ap (list_all (is_sound_modifier (scene_of c.args.slots.now))) (c.modifiers.ensures ∙ ap (λ s. (seen_scene s).modifiers) c.scene-scene.ensures) ∙ c.requires.modifiers

pub returns : goal.returns
returns c =
    all_made (item_rule (scene_of c.args.slots.now) (layout_of c.args.slots.now)) (scene_of c.args.slots.now) _ _ _ _ _ _ _ _ _ _ (ticks_of (scene_of c.args.slots.now).setting)
    (ap (map flat_rule) c.new-rules.ensures) c.in_ok-push_constraints.ensures c.in_ok-push_enums.ensures c.in_ok-push_phases.ensures c.in_ok-push_modifiers.ensures c.in_ok-push_motions.ensures
    (c.values.ensures ∙ ap (λ s. values (seen_scene s)) c.scene-scene.ensures) (c.phases.ensures ∙ ap (λ s. phases (seen_scene s)) c.scene-scene.ensures)
    (c.modifiers.ensures ∙ ap (λ s. (seen_scene s).modifiers) c.scene-scene.ensures) (c.vehicles.ensures ∙ ap (λ s. vehicles (seen_scene s)) c.scene-scene.ensures) refl
