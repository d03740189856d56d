-- Numbers of a point that count something are from 0 to what there is of it.
use Rattle.std.proofs.Common.{◌≡◌, ℕ, ◌-◌, refl, sym, ap, ◌∙◌, subst, Bool, true, false, List, Option, Some, None, IfSome, cond, arith}
use Rattle.std.specs.Prelude.{ℤ, pos, ◌≤ℤ◌, int_le, unsigned_abs}
use Rattle.std.specs.Option.{option_map_or}
use Rattle.std.specs.List.{list_all}
use Rattle.std.proofs.lemmas.Int.{ints}
use Rattle.osc_base.specs.declared.path.Path.{Path}
use Rattle.osc_base.specs.declared.listing.SlotName.{SlotName}
use Rattle.box_eval.specs.declared.bounds.Pair.{Pair}
use Rattle.box_eval.specs.Box.{pair, value_of, IsPointOf}
use Rattle.box_eval.specs.FlatRules.{Whole, Slot}
use Rattle.scene_slots.specs.composition.declared.spot.ChoiceSpot.{ChoiceSpot}
use Rattle.scene_slots.specs.composition.Scenes.{Scene, choices, root_do, has_root_do}
use Rattle.scene_slots.specs.composition.Slots.{slot_names}
use Rattle.scene_slots.specs.field_flatten.Ends.{slot_in, bounds, no_ends}
use Rattle.scene_slots.specs.field_flatten.Exactness.{IsExpanded}
use Rattle.scene_slots.specs.field_flatten.Points.{slot_value, end_named}
use Rattle.scene_slots.proofs.of_field_flatten.Tests.{both, all_from}
use Rattle.scene_slots.proofs.of_field_flatten.ItemLaw.{distinct_found}
use Rattle.scene_slots.proofs.of_field_flatten.SlotLaw.{Inside, point_inside, start_between, end_between, choice_above, choice_named}
use Rattle.scene_slots.specs.Places.{end_slot}
use Rattle.scene_slots.proofs.QuerySteps.{end_term_is}
use Rattle.scene_runs.specs.Entries.{is_chosen}

le_is : (a b : ℤ) → a ≤ℤ b → int_le a b ≡ true
le_is a b h = grind (arith, ints)

one_less : (z : ℤ) (n : ℕ) → z ≤ℤ pos (n - 1) → z ≤ℤ pos n
one_less z n h = omega (arith, ints)

module _ (scene : Scene) (point : List ℤ) (inside : IsPointOf (bounds scene) point) where
  abbrev at : SlotName → ℤ
  at = slot_value scene point

  within : Inside scene at
  within = point_inside scene point inside

  -- ---- the ticks of phases

  pub start_low : (path : Path) (slot : ℕ) (n : ℤ) → n ≡ value_of point slot → slot ≡ slot_in (slot_names scene) (SlotName.Start path) → pos 0 ≤ℤ n
  start_low path slot n is place = subst (λ z. pos 0 ≤ℤ z) (sym (is ∙ ap (value_of point) place)) (start_between scene at within path).0

  pub start_high : (path : Path) (slot : ℕ) (n : ℤ) → n ≡ value_of point slot → slot ≡ slot_in (slot_names scene) (SlotName.Start path) → (ticks : ℕ) → ticks ≡ scene.setting.ticks → n ≤ℤ pos ticks
  start_high path slot n is place ticks t =
      subst (λ m. n ≤ℤ pos m) (sym t) (subst (λ z. z ≤ℤ pos scene.setting.ticks) (sym (is ∙ ap (value_of point) place)) (start_between scene at within path).1)

  pub end_low : (path : Path) (slot : ℕ) (n : ℤ) → n ≡ value_of point slot → slot ≡ slot_in (slot_names scene) (SlotName.End path) → pos 0 ≤ℤ n
  end_low path slot n is place = subst (λ z. pos 0 ≤ℤ z) (sym (is ∙ ap (value_of point) place)) (end_between scene at within path).0

  pub end_high : (path : Path) (slot : ℕ) (n : ℤ) → n ≡ value_of point slot → slot ≡ slot_in (slot_names scene) (SlotName.End path) → (ticks : ℕ) → ticks ≡ scene.setting.ticks → n ≤ℤ pos ticks
  end_high path slot n is place ticks t =
      subst (λ m. n ≤ℤ pos m) (sym t) (subst (λ z. z ≤ℤ pos scene.setting.ticks) (sym (is ∙ ap (value_of point) place)) (end_between scene at within path).1)

  -- ---- the members of choices

  pub all_chosen : IsExpanded scene → list_all (is_chosen at) (choices scene) ≡ true
  all_chosen expanded = all_from (is_chosen at) (choices scene) (λ c i. both (int_le (pos 0) (at (SlotName.Choice c.path))) (int_le (at (SlotName.Choice c.path)) (pos c.members))
      (le_is (pos 0) (at (SlotName.Choice c.path)) (choice_above scene at within c.path))
      (le_is (at (SlotName.Choice c.path)) (pos c.members) (one_less (at (SlotName.Choice c.path)) c.members
      (subst (λ o. at (SlotName.Choice c.path) ≤ℤ (option_map_or {U = Pair} (λ (d : ChoiceSpot). pair (pos 0) (pos (d.members - 1))) o no_ends).high)
      (distinct_found (λ (d : ChoiceSpot). d.path) (choices scene) expanded.is_scene.choices_distinct c i)
      (within.named (SlotName.Choice c.path) (choice_named scene c i)).high))))

  -- ---- the end of the run

  abbrev whole_slot : ℕ
  whole_slot = slot_in (slot_names scene) (SlotName.End root_do)

  some_end : (s : ℕ) (b : Bool) → Slot s ≡ cond b (Slot whole_slot) (Whole (pos 0)) → s ≡ whole_slot
  some_end s true h = cc
  some_end s false h = absurd (cc)

  pub whole_low : (o : Option ℕ) → o ≡ end_slot scene → IfSome o (λ s. pos 0 ≤ℤ value_of point s)
  whole_low None is = tt
  whole_low (Some s) is = subst (λ n. pos 0 ≤ℤ value_of point n) (sym (some_end s (has_root_do scene) (end_term_is scene (Some s) is))) (end_between scene at within root_do).0

  pub whole_high : (o : Option ℕ) → o ≡ end_slot scene → (ticks : ℕ) → ticks ≡ scene.setting.ticks → IfSome o (λ s. value_of point s ≤ℤ pos ticks)
  whole_high None is ticks t = tt
  whole_high (Some s) is ticks t = subst (λ n. value_of point n ≤ℤ pos ticks) (sym (some_end s (has_root_do scene) (end_term_is scene (Some s) is)))
      (subst (λ m. at (SlotName.End root_do) ≤ℤ pos m) (sym t) (end_between scene at within root_do).1)

-- the end of the run, by its slot
module _ (scene : Scene) (point : List ℤ) where
  abbrev own_slot : ℕ
  own_slot = slot_in (slot_names scene) (SlotName.End root_do)

  pub ended : (o : Option ℕ) → o ≡ end_slot scene → option_map_or (λ s. unsigned_abs (value_of point s)) o 0 ≡ end_named scene (slot_value scene point)
  ended None is = by (has_root_do scene) (end_term_is scene None is)
    where
      by : (b : Bool) → Whole (pos 0) ≡ cond b (Slot own_slot) (Whole (pos 0)) → 0 ≡ cond b (unsigned_abs (value_of point own_slot)) 0
      by true h = absurd (cc)
      by false h = refl
  ended (Some s) is = by (has_root_do scene) (end_term_is scene (Some s) is)
    where
      by : (b : Bool) → Slot s ≡ cond b (Slot own_slot) (Whole (pos 0)) → unsigned_abs (value_of point s) ≡ cond b (unsigned_abs (value_of point own_slot)) 0
      by true h = let e : s ≡ own_slot = cc in ap (λ n. unsigned_abs (value_of point n)) e
      by false h = absurd (cc)
