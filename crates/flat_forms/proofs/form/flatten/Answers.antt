use Rattle.scene_rules.specs.composition.SeenScenes.{seen_scene}
use Rattle.slot_ends.proofs.of_field_flatten.FlatForms.{flat_form}
use Rattle.flat_forms.proofs.SceneParts as Parts
use Rattle.flat_forms.proofs.form.flatten.Goals as goal

pub bounds-requires : goal.bounds-requires
bounds-requires c = Parts.few_ticks (seen_scene c.args.scene.now) c.requires.expanded

pub rules_of-requires-clause-few : goal.rules_of-requires-clause-few
rules_of-requires-clause-few c = Parts.few_slots (seen_scene c.args.scene.now) c.requires.expanded

pub rules_of-requires-clause-short : goal.rules_of-requires-clause-short
rules_of-requires-clause-short c = Parts.short_tick (seen_scene c.args.scene.now) c.requires.expanded

pub rules_of-requires-clause-ticks : goal.rules_of-requires-clause-ticks
rules_of-requires-clause-ticks c = Parts.few_ticks (seen_scene c.args.scene.now) c.requires.expanded

pub rules_of-requires-clause-constraints : goal.rules_of-requires-clause-constraints
rules_of-requires-clause-constraints c = Parts.occurrences_sound (seen_scene c.args.scene.now) c.requires.expanded

pub rules_of-requires-clause-modifiers : goal.rules_of-requires-clause-modifiers
rules_of-requires-clause-modifiers c = Parts.modifiers_sound (seen_scene c.args.scene.now) c.requires.expanded c.requires.limited

pub returns-clause-form : goal.returns-clause-form
returns-clause-form c = record { same_ends = c.in_ok-bounds.ensures; same_rules = c.in_ok-rules.ensures }

pub returns-clause-flat : goal.returns-clause-flat
returns-clause-flat c = flat_form (seen_scene c.args.scene.now) _ c.requires.expanded c.requires.limited (record { same_ends = c.in_ok-bounds.ensures; same_rules = c.in_ok-rules.ensures })
