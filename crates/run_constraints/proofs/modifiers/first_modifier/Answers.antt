use Rattle.std.proofs.Common.{◌∙◌, sym, ap, not}
use Rattle.std.specs.Prelude.{find}
use Rattle.std.specs.List.{list_all}
use Rattle.scene_conditions.specs.composition.SeenParts.{seen_modifier}
use Rattle.scene_conditions.specs.composition.Scenes.{Scene, ModifierSpot}
use Rattle.scene_conditions.specs.composition.Items.{modifier_holds}
use Rattle.scene_conditions.specs.composition.Invariants.{is_modifier}
use Rattle.scene_conditions.specs.composition.Slots.{ticks_of}
use Rattle.run_values.specs.field_flatten.Exactness.{is_narrow_range}
use Rattle.run_values.specs.SeenNumbers.{scene_in, run_in}
use Rattle.run_values.proofs.Rows.{find_later, find_first, all_first, all_later}
use Rattle.run_constraints.proofs.modifiers.first_modifier.Goals as goal

pub loop-rest-init : goal.loop-rest-init
loop-rest-init c =
    let e = c.modifiers-rest.ensures ∙ ap (λ (s : Scene). s.modifiers) c.scene.ensures in
    (ap (find (λ (m : ModifierSpot). not (list_all (modifier_holds (scene_in c.args.numbers.now) (run_in c.args.numbers.now) m) (ticks_of (scene_in c.args.numbers.now).setting)))) e, ap (list_all (is_modifier (scene_in c.args.numbers.now))) e ∙ c.args.numbers.now.within.is_scene.modifiers, ap (list_all is_narrow_range) e ∙ c.args.numbers.now.within.narrow_ranges)

pub holds-requires-clause-sound : goal.holds-requires-clause-sound
holds-requires-clause-sound c =
    all_first seen_modifier (is_modifier (scene_in c.args.numbers.now)) c.loop-rest.rest.now c.modifier-item.result
    c.in-len1-up.len_at_least c.modifier-item.is c.loop-rest.invariant.1

pub holds-requires-clause-narrow : goal.holds-requires-clause-narrow
holds-requires-clause-narrow c =
    all_first seen_modifier is_narrow_range c.loop-rest.rest.now c.modifier-item.result
    c.in-len1-up.len_at_least c.modifier-item.is c.loop-rest.invariant.2

pub returns-then-not-held : goal.returns-then-not-held
returns-then-not-held c =
    find_first seen_modifier (λ (m : ModifierSpot). not (list_all (modifier_holds (scene_in c.args.numbers.now) (run_in c.args.numbers.now) m) (ticks_of (scene_in c.args.numbers.now).setting))) c.loop-rest.rest.now c.modifier-item.result
    c.in-len1-up.len_at_least c.modifier-item.is (ap not (sym c.in_ok-held.ensures ∙ c.if-not-held.true))
    ∙ c.loop-rest.invariant.0

pub loop-rest-preserved : goal.loop-rest-preserved
loop-rest-preserved c = (
  find_later seen_modifier (λ (m : ModifierSpot). not (list_all (modifier_holds (scene_in c.args.numbers.now) (run_in c.args.numbers.now) m) (ticks_of (scene_in c.args.numbers.now).setting))) c.loop-rest.rest.now c.modifier-item.result
      c.in-len1-up.len_at_least c.modifier-item.is (ap not (sym c.in_ok-held.ensures ∙ c.if-not-held.false))
      ∙ c.loop-rest.invariant.0,
  all_later seen_modifier (is_modifier (scene_in c.args.numbers.now)) c.loop-rest.rest.now c.modifier-item.result
      c.in-len1-up.len_at_least c.modifier-item.is c.loop-rest.invariant.1,
  all_later seen_modifier is_narrow_range c.loop-rest.rest.now c.modifier-item.result
      c.in-len1-up.len_at_least c.modifier-item.is c.loop-rest.invariant.2,
)
