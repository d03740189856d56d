-- What a point of the box gives a slot lies between the ends of its name.
use Rattle.std.proofs.Common.{◌≡◌, ℕ, zero, suc, ◌+◌, ◌-◌, ◌<◌, ◌≤◌, refl, sym, ap, ap₂, ◌∙◌, subst, ◌⊎◌, inl, inr, List, [], ◌∷◌, ◌++◌, Bool, true, false, Option, Some, None, map, length, arith, true≢false}
use Rattle.std.specs.Prelude.{ℤ, pos, ◌≤ℤ◌, nat_eq, nat_lt, option_map, find, flat_map, slice_get, unwrap_or, position}
use Rattle.std.specs.Option.{option_map_or}
use Rattle.std.specs.List.{list_any, range_with_len, position_or_len}
use Rattle.std.proofs.lemmas.Int.{ints}
use Rattle.std.proofs.lemmas.Option.{slice_get-map}
use Rattle.osc_base.specs.declared.path.Path.{Path}
use Rattle.osc_base.specs.declared.listing.SlotName.{SlotName}
use Rattle.osc_base.specs.Paths.{same_path}
use Rattle.osc_base.specs.SlotNames.{same_slot}
use Rattle.box_eval.specs.declared.bounds.Pair.{Pair}
use Rattle.box_eval.specs.Box.{IsPointOf}
use Rattle.composition.specs.declared.spot.ChoiceSpot.{ChoiceSpot}
use Rattle.composition.specs.declared.spot.ValueSpot.{ValueSpot}
use Rattle.composition.specs.declared.spot.ValueRange.{ValueRange}
use Rattle.composition.specs.declared.spot.PhaseSpot.{PhaseSpot}
use Rattle.composition.specs.Scenes.{Scene, choices, values, phases, vehicles}
use Rattle.composition.specs.Slots.{ticks_of, sample_names, slot_names}
use Rattle.composition.specs.Invariants.{value_at}
use Rattle.field_flatten.specs.Ends.{slot_in, ends_of, range_ends, no_ends, bounds}
use Rattle.field_flatten.specs.Points.{slot_value}
use Rattle.field_flatten.proofs.Tests.{left_of, right_of, both, two_ways, number_is, number_self, path_is, path_self, In, in_left, in_right, in_map, in_flat_map, any_at, found_in, finds, found_none}

-- ---- places

module _ {A : Type 0} (test : A → Bool) where
  place_small : (xs : List A) → position_or_len test xs ≤ length xs
  place_small [] = omega arith
  place_small (x ∷ xs) = two_ways (test x) (λ e. rw e (omega arith)) (λ e. let rec = place_small xs in rw e (omega arith))

  past_end : (xs : List A) → slice_get xs (length xs) ≡ None
  past_end [] = refl
  past_end (x ∷ xs) = past_end xs

  pub at_place : (xs : List A) → slice_get xs (position_or_len test xs) ≡ find test xs
  at_place [] = refl
  at_place (x ∷ xs) = two_ways (test x) (λ e. rw e refl) (λ e. rw e (next (position_or_len test xs) ∙ at_place xs))
    where
      next : (n : ℕ) → slice_get (x ∷ xs) (1 + n) ≡ slice_get xs n
      next n = let is : 1 + n ≡ suc n = omega arith in ap (slice_get (x ∷ xs)) is

  pub place_is : (xs : List A) → unwrap_or (position test xs) (length xs) ≡ position_or_len test xs
  place_is xs = let small = place_small xs in two_ways (nat_lt (position_or_len test xs) (length xs)) (λ e. rw e refl) (λ e. rw e (grind arith))

  pub at_position : (xs : List A) → slice_get xs (unwrap_or (position test xs) (length xs)) ≡ find test xs
  at_position xs = ap (slice_get xs) (place_is xs) ∙ at_place xs

-- ---- names

pub slot_is : (a b : SlotName) → same_slot a b ≡ true → a ≡ b
slot_is (SlotName.Choice p) (SlotName.Choice q) h = ap SlotName.Choice (path_is p q h)
slot_is (SlotName.Start p) (SlotName.Start q) h = ap SlotName.Start (path_is p q h)
slot_is (SlotName.End p) (SlotName.End q) h = ap SlotName.End (path_is p q h)
slot_is (SlotName.Value p) (SlotName.Value q) h = ap SlotName.Value (path_is p q h)
slot_is (SlotName.Lane p t) (SlotName.Lane q u) h = ap₂ SlotName.Lane (path_is p q (right_of (nat_eq t u) (same_path p q) h)) (number_is t u (left_of (nat_eq t u) (same_path p q) h))
slot_is (SlotName.Position p t) (SlotName.Position q u) h = ap₂ SlotName.Position (path_is p q (right_of (nat_eq t u) (same_path p q) h)) (number_is t u (left_of (nat_eq t u) (same_path p q) h))
slot_is (SlotName.Speed p t) (SlotName.Speed q u) h = ap₂ SlotName.Speed (path_is p q (right_of (nat_eq t u) (same_path p q) h)) (number_is t u (left_of (nat_eq t u) (same_path p q) h))
slot_is _ _ h = absurd (true≢false (sym h))

pub slot_self : (a : SlotName) → same_slot a a ≡ true
slot_self (SlotName.Choice p) = path_self p
slot_self (SlotName.Start p) = path_self p
slot_self (SlotName.End p) = path_self p
slot_self (SlotName.Value p) = path_self p
slot_self (SlotName.Lane p t) = both (nat_eq t t) (same_path p p) (number_self t) (path_self p)
slot_self (SlotName.Position p t) = both (nat_eq t t) (same_path p p) (number_self t) (path_self p)
slot_self (SlotName.Speed p t) = both (nat_eq t t) (same_path p p) (number_self t) (path_self p)

pub named_at : (names : List SlotName) (name : SlotName) → In name names → slice_get names (slot_in names name) ≡ Some name
named_at names name i =
    let first = finds (same_slot name) names name i (slot_self name) in
    at_position (same_slot name) names ∙ first.1 ∙ ap Some (sym (slot_is name first.0 (found_in (same_slot name) names first.0 first.1).1))

pub unnamed_at : (names : List SlotName) (name : SlotName) → list_any (same_slot name) names ≡ false → slice_get names (slot_in names name) ≡ None
unnamed_at names name h = at_position (same_slot name) names ∙ found_none (same_slot name) names h

-- ---- the names of a scene

module _ (scene : Scene) where
  abbrev firsts : List SlotName
  firsts = map (λ (c : ChoiceSpot). SlotName.Choice c.path) (choices scene)

  abbrev ticks : List SlotName
  ticks = flat_map (λ (p : PhaseSpot). SlotName.Start p.path ∷ SlotName.End p.path ∷ []) (phases scene)

  abbrev fields : List SlotName
  fields = map (λ (v : ValueSpot). SlotName.Value v.path) (values scene)

  abbrev samples : List SlotName
  samples = flat_map (λ v. flat_map (sample_names v) (ticks_of scene.setting)) (vehicles scene)

  pub choice_named : (c : ChoiceSpot) → In c (choices scene) → In (SlotName.Choice c.path) (slot_names scene)
  choice_named c i = in_left (SlotName.Choice c.path) (firsts ++ ticks ++ fields) samples (in_left (SlotName.Choice c.path) (firsts ++ ticks) fields
      (in_left (SlotName.Choice c.path) firsts ticks (in_map (λ (d : ChoiceSpot). SlotName.Choice d.path) (choices scene) c i)))

  tick_named : (name : SlotName) → In name ticks → In name (slot_names scene)
  tick_named name i = in_left name (firsts ++ ticks ++ fields) samples (in_left name (firsts ++ ticks) fields (in_right name firsts ticks i))

  pub start_named : (p : PhaseSpot) → In p (phases scene) → In (SlotName.Start p.path) (slot_names scene)
  start_named p i = tick_named (SlotName.Start p.path)
      (in_flat_map (λ (q : PhaseSpot). SlotName.Start q.path ∷ SlotName.End q.path ∷ []) (phases scene) p (SlotName.Start p.path) i (inl refl))

  pub end_is_named : (p : PhaseSpot) → In p (phases scene) → In (SlotName.End p.path) (slot_names scene)
  end_is_named p i = tick_named (SlotName.End p.path)
      (in_flat_map (λ (q : PhaseSpot). SlotName.Start q.path ∷ SlotName.End q.path ∷ []) (phases scene) p (SlotName.End p.path) i (inr (inl refl)))

  pub value_is_named : (v : ValueSpot) → In v (values scene) → In (SlotName.Value v.path) (slot_names scene)
  value_is_named v i = in_left (SlotName.Value v.path) (firsts ++ ticks ++ fields) samples (in_right (SlotName.Value v.path) (firsts ++ ticks) fields
      (in_map (λ (w : ValueSpot). SlotName.Value w.path) (values scene) v i))

  pub counted : (from n t : ℕ) → from ≤ t → t < from + n → In t (range_with_len from n)
  counted from zero t low high = absurd (omega arith)
  counted from (suc n) t low high = two_ways (nat_eq t from) (λ e. inl (number_is t from e)) (λ e. inr (counted (from + 1) n t (grind arith) (omega arith)))

  pub sample_is_named : (v : Path) (t : ℕ) (name : SlotName) → In v (vehicles scene) → t ≤ scene.setting.ticks → In name (sample_names v t) → In name (slot_names scene)
  sample_is_named v t name i small j = in_right name (firsts ++ ticks ++ fields) samples
      (in_flat_map (λ w. flat_map (sample_names w) (ticks_of scene.setting)) (vehicles scene) v name i
      (in_flat_map (sample_names v) (ticks_of scene.setting) t name (counted 0 (scene.setting.ticks + 1) t (omega arith) (omega arith)) j))

-- ---- numbers between their ends

pub record Between (ends : Pair) (n : ℤ) : Type 0 where
  pub low : ends.low ≤ℤ n
  pub high : n ≤ℤ ends.high

-- the numbers of slots are in the box of a scene
pub record Inside (scene : Scene) (at : SlotName → ℤ) : Type 0 where
  pub named : (name : SlotName) → In name (slot_names scene) → Between (ends_of scene name) (at name)
  pub unnamed : (name : SlotName) → list_any (same_slot name) (slot_names scene) ≡ false → at name ≡ pos 0

pub point_inside : (scene : Scene) (point : List ℤ) → IsPointOf (bounds scene) point → Inside scene (slot_value scene point)
point_inside scene point p = record {
  named = λ name i. let here = slice_get-map (ends_of scene) (slot_names scene) (slot_in (slot_names scene) name) ∙ ap (option_map (ends_of scene)) (named_at (slot_names scene) name i) in record {
    low = subst (λ o. option_map_or (λ (e : Pair). e.low) o (pos 0) ≤ℤ slot_value scene point name) here (p.above (slot_in (slot_names scene) name));
    high = subst (λ o. slot_value scene point name ≤ℤ option_map_or (λ (e : Pair). e.high) o (pos 0)) here (p.below (slot_in (slot_names scene) name));
  };
  unnamed = λ name h. let here = slice_get-map (ends_of scene) (slot_names scene) (slot_in (slot_names scene) name) ∙ ap (option_map (ends_of scene)) (unnamed_at (slot_names scene) name h) in
      zero_is (slot_value scene point name)
      (subst (λ o. option_map_or (λ (e : Pair). e.low) o (pos 0) ≤ℤ slot_value scene point name) here (p.above (slot_in (slot_names scene) name)))
      (subst (λ o. slot_value scene point name ≤ℤ option_map_or (λ (e : Pair). e.high) o (pos 0)) here (p.below (slot_in (slot_names scene) name)));
}
  where
    zero_is : (z : ℤ) → pos 0 ≤ℤ z → z ≤ℤ pos 0 → z ≡ pos 0
    zero_is z a b = omega (arith, ints)

module _ (scene : Scene) (at : SlotName → ℤ) (inside : Inside scene at) where
  -- either between its ends, or 0
  between_or_zero : (name : SlotName) → Between (ends_of scene name) (at name) ⊎ (at name ≡ pos 0)
  between_or_zero name = two_ways (list_any (same_slot name) (slot_names scene))
      (λ e. inl (let found = any_at (same_slot name) (slot_names scene) e in inside.named name (subst (λ s. In s (slot_names scene)) (sym (slot_is name found.0 found.2)) found.1)))
      (λ e. inr (inside.unnamed name e))

  pub start_between : (path : Path) → (pos 0 ≤ℤ at (SlotName.Start path)) × (at (SlotName.Start path) ≤ℤ pos scene.setting.ticks)
  start_between path = elim (between_or_zero (SlotName.Start path)) as (λ _. (pos 0 ≤ℤ at (SlotName.Start path)) × (at (SlotName.Start path) ≤ℤ pos scene.setting.ticks)) [
    | inl b ↦ (b.low, b.high)
    | inr z ↦ (omega (arith, ints), omega (arith, ints))
  ]

  pub end_between : (path : Path) → (pos 0 ≤ℤ at (SlotName.End path)) × (at (SlotName.End path) ≤ℤ pos scene.setting.ticks)
  end_between path = elim (between_or_zero (SlotName.End path)) as (λ _. (pos 0 ≤ℤ at (SlotName.End path)) × (at (SlotName.End path) ≤ℤ pos scene.setting.ticks)) [
    | inl b ↦ (b.low, b.high)
    | inr z ↦ (omega (arith, ints), omega (arith, ints))
  ]

  choice_low : (o : Option ChoiceSpot) → (option_map_or {U = Pair} (λ (c : ChoiceSpot). record { low = pos 0; high = pos (c.members - 1) }) o (record { low = pos 0; high = pos 0 })).low ≡ pos 0
  choice_low None = refl
  choice_low (Some c) = refl

  pub choice_above : (path : Path) → pos 0 ≤ℤ at (SlotName.Choice path)
  choice_above path = elim (between_or_zero (SlotName.Choice path)) as (λ _. pos 0 ≤ℤ at (SlotName.Choice path)) [
    | inl b ↦ subst (λ z. z ≤ℤ at (SlotName.Choice path)) (choice_low (find (λ (c : ChoiceSpot). same_path c.path path) (choices scene))) b.low
    | inr z ↦ omega (arith, ints)
  ]

  pub text_between : (path : Path) (v : ValueSpot) → value_at scene path ≡ Some v → v.range ≡ ValueRange.Chars → (pos 0 ≤ℤ at (SlotName.Value path)) × (at (SlotName.Value path) ≤ℤ pos (length scene.texts - 1))
  text_between path v known chars = elim (between_or_zero (SlotName.Value path)) as (λ _. (pos 0 ≤ℤ at (SlotName.Value path)) × (at (SlotName.Value path) ≤ℤ pos (length scene.texts - 1))) [
    | inl b ↦ let is : ends_of scene (SlotName.Value path) ≡ range_ends scene.texts ValueRange.Chars = ap (λ o. option_map_or (λ (w : ValueSpot). range_ends scene.texts w.range) o no_ends) known ∙ ap (range_ends scene.texts) chars in
        (subst (λ e. e.low ≤ℤ at (SlotName.Value path)) is b.low, subst (λ e. at (SlotName.Value path) ≤ℤ e.high) is b.high)
    | inr z ↦ (omega (arith, ints), omega (arith, ints))
  ]
