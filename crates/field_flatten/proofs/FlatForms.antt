-- Each rule of a scene's flat form may be judged on the form's box.
use Rattle.std.proofs.Common.{◌≡◌, ℕ, ◌≤◌, ◌<◌, ◌^◌, refl, sym, ap, ◌∙◌, subst, inl, inr, List, [], ◌∷◌, length, true, false, Option, Some, None, arith}
use Rattle.std.proofs.lemmas.List.{length-map}
use Rattle.std.proofs.lemmas.Option.{slice_get-map}
use Rattle.std.specs.Prelude.{pos, ◌≤ℤ◌, nat_lt, option_map, slice_get}
use Rattle.std.specs.Option.{option_map_or}
use Rattle.std.proofs.lemmas.Int.{ints}
use Rattle.osc_base.specs.declared.listing.SlotName.{SlotName}
use Rattle.osc_base.specs.Comparisons.{greatest_part}
use Rattle.box_eval.specs.declared.rule.Rule.{Rule}
use Rattle.box_eval.specs.declared.bounds.Pair.{Pair}
use Rattle.box_eval.specs.declared.flat.Flat.{Flat}
use Rattle.box_eval.specs.Box.{IsBox}
use Rattle.box_eval.specs.Rules.{CanJudge, AllFit, IsFlat}
use Rattle.box_eval.specs.Reach.{reach_of}
use Rattle.box_eval.specs.FlatRules.{FlatRule, flat_rule}
use Rattle.composition.specs.declared.spot.ValueSpot.{ValueSpot}
use Rattle.composition.specs.Scenes.{Scene, Occurrence, values}
use Rattle.composition.specs.Items.{Item, OfHard, OfDefault, OfTyped, OfPhase, OfModifier, OfMotion, items}
use Rattle.composition.specs.Slots.{slot_names}
use Rattle.composition.specs.Invariants.{value_at, is_occurrence}
use Rattle.field_flatten.specs.Ends.{ends_of, bounds}
use Rattle.field_flatten.specs.Rules.{layout, item_rule, rules}
use Rattle.field_flatten.specs.Exactness.{IsExpanded, IsLimited, IsFlatOf}
use Rattle.field_flatten.proofs.Tests.{In, in_map, map_in, all_at}
use Rattle.field_flatten.proofs.ItemLaw.{IsItem, item_is, distinct_found}
use Rattle.field_flatten.proofs.PointOfRun.{ends_ordered}
use Rattle.field_flatten.proofs.FlatReach.{rule_far, slots_are, far_enough}
use Rattle.field_flatten.proofs.Fitting.{RuleFits}
use Rattle.field_flatten.proofs.ConstraintReach.{hard_fits, default_fits, enum_fits, phase_fits}
use Rattle.field_flatten.proofs.MotionReach.{motion_fits}
use Rattle.field_flatten.proofs.ModifierReach.{modifier_fits}

-- ends in order are a box
scene_box : (scene : Scene) → IsExpanded scene → IsBox (bounds scene)
scene_box scene expanded = record {
  ordered = λ slot. subst (λ o. option_map_or (λ (e : Pair). e.low) o (pos 0) ≤ℤ option_map_or (λ (e : Pair). e.high) o (pos 0))
      (sym (slice_get-map (ends_of scene) (slot_names scene) slot)) (by (slice_get (slot_names scene) slot));
}
  where
    by : (o : Option SlotName) → option_map_or (λ (e : Pair). e.low) (option_map (ends_of scene) o) (pos 0) ≤ℤ option_map_or (λ (e : Pair). e.high) (option_map (ends_of scene) o) (pos 0)
    by None = omega (arith, ints)
    by (Some name) = ends_ordered scene expanded name

module _ (scene : Scene) (expanded : IsExpanded scene) (limited : IsLimited scene) (most : ℕ) (large : 1000000000000000 ≤ most) (wide : (n : ℕ) → nat_lt greatest_part n ≡ false → n ≤ most) where
  item_fits : (i : Item) → IsItem scene i → RuleFits (bounds scene) most (item_rule scene (layout scene) i)
  item_fits (OfHard o) is = hard_fits scene expanded limited most large wide o is.0 (subst (λ s. is_occurrence scene o s ≡ true) is.1
      (all_at (λ (p : Occurrence). is_occurrence scene p p.mark.strength) scene.occurrences expanded.is_scene.occurrences o is.0))
  item_fits (OfDefault later o) is = default_fits scene expanded limited most large wide later o is.0 (subst (λ s. is_occurrence scene o s ≡ true) is.1
      (all_at (λ (p : Occurrence). is_occurrence scene p p.mark.strength) scene.occurrences expanded.is_scene.occurrences o is.0))
  item_fits (OfTyped path numbers) is = enum_fits scene expanded limited most large wide path numbers is.0
      (subst (λ p. value_at scene p ≡ Some is.0) is.2 (distinct_found (λ (v : ValueSpot). v.path) (values scene) expanded.is_scene.values_distinct is.0 is.1)) is.1 is.3
  item_fits (OfPhase p) is = phase_fits scene expanded limited most large wide p is
  item_fits (OfModifier m tick) is = modifier_fits scene expanded limited most large wide m tick is.0 is.1
  item_fits (OfMotion vehicle tick) is = motion_fits scene expanded limited most large wide vehicle tick is.0 is.1

  rule_fits : (r : FlatRule) → In r (rules scene) → RuleFits (bounds scene) most r
  rule_fits r j = let i = map_in (item_rule scene (layout scene)) (items scene) r j in subst (RuleFits (bounds scene) most) (sym i.2) (item_fits i.0 (item_is scene i.0 i.1))

le_more : (a b c : ℕ) → a ≤ b → b ≤ c → a ≤ c
le_more a b c p q = omega arith

-- a rule that fits may be judged
judged : (box : List Pair) (rule : Rule) (most : ℕ) → most ≡ 2 ^ 120 → IsBox box → RuleFits box most (flat_rule rule) → CanJudge box rule
judged box rule most is ordered fits = record {
  slots = subst (λ n. n ≤ length box) (sym (slots_are rule)) fits.slots;
  reach = subst (λ n. reach_of box rule ≤ n) is (le_more (reach_of box rule) (rule_far box (flat_rule rule)) most (far_enough box ordered rule) fits.far);
}

all_judged : (box : List Pair) (rs : List Rule) → ((r : Rule) → In r rs → CanJudge box r) → AllFit box rs
all_judged box [] f = tt
all_judged box (r ∷ rs) f = (f r (inl refl), all_judged box rs (λ s i. f s (inr i)))

less_of : (a b : ℕ) → nat_lt a b ≡ true → a < b
less_of a b h = grind arith

not_less : (a b : ℕ) → nat_lt a b ≡ false → b ≤ a
not_less a b h = grind arith

pub flat_form : (scene : Scene) (flat : Flat) → IsExpanded scene → IsLimited scene → IsFlatOf scene flat → IsFlat flat
flat_form scene flat expanded limited is = record {
  box = subst IsBox (sym is.same_ends) (scene_box scene expanded);
  fit = subst (λ box. AllFit box flat.rules) (sym is.same_ends) (all_judged (bounds scene) flat.rules (λ r i.
      judged (bounds scene) r greatest_part refl (scene_box scene expanded)
      (rule_fits scene expanded limited greatest_part (omega arith) (λ n h. not_less greatest_part n h) (flat_rule r) (subst (In (flat_rule r)) is.same_rules (in_map flat_rule flat.rules r i)))));
  few_slots = subst (λ n. n < 2 ^ 32) (sym (ap length is.same_ends ∙ length-map (slot_names scene) (ends_of scene))) (less_of (length (slot_names scene)) (2 ^ 32) expanded.is_scene.few_slots);
  few_rules = subst (λ n. n < 2 ^ 32) (sym (sym (length-map flat.rules flat_rule) ∙ ap length is.same_rules ∙ length-map (items scene) (item_rule scene (layout scene)))) (less_of (length (items scene)) (2 ^ 32) expanded.is_scene.few_rules);
}
