-- What an expanded scene gives to those who make its flat form.
use Rattle.std.proofs.Common.{◌≡◌, ℕ, ◌≤◌, ◌<◌, ◌^◌, refl, Bool, true, false, ◌&&◌, List, [], ◌∷◌, ◌++◌, Option, Some, None, arith}
use Rattle.std.specs.Prelude.{nat_lt, option_to_list, flat_map}
use Rattle.std.specs.List.{list_all}
use Rattle.scene_rules.specs.expr_nodes.Typed.{Typed}
use Rattle.scene_rules.specs.composition.Scenes.{Scene, Occurrence, ModifierSpot}
use Rattle.scene_rules.specs.composition.Invariants.{is_occurrence, is_modifier}
use Rattle.slot_ends.specs.field_flatten.Seen.{has_values}
use Rattle.slot_ends.specs.field_flatten.Exactness.{IsExpanded, IsLimited, is_narrow_range}
use Rattle.slot_ends.proofs.of_field_flatten.Tests.{left_of, right_of}
use Rattle.slot_ends.proofs.of_field_flatten.of_composition.Settings.{setting_is}
use Rattle.slot_ends.specs.scene_slots.flat_shapes.Room.{longest_tick}
use Rattle.slot_ends.specs.scene_slots.Numbers.{past}
use Rattle.scene_rules.specs.Rooms.{are_values}
use Rattle.flat_forms.specs.SoundParts.{is_sound_occurrence, is_sound_modifier}

-- ---- tests

both : (a b : Bool) → a ≡ true → b ≡ true → a && b ≡ true
both true b h k = k
both false b h k = h

less : (n m : ℕ) → nat_lt n m ≡ true → n < m
less n m h = grind arith

-- all of two rows
all_left : {A : Type 0} (p : A → Bool) (xs ys : List A) → list_all p (xs ++ ys) ≡ true → list_all p xs ≡ true
all_left p [] ys h = refl
all_left p (x ∷ xs) ys h = both (p x) (list_all p xs) (left_of (p x) (list_all p (xs ++ ys)) h) (all_left p xs ys (right_of (p x) (list_all p (xs ++ ys)) h))

all_right : {A : Type 0} (p : A → Bool) (xs ys : List A) → list_all p (xs ++ ys) ≡ true → list_all p ys ≡ true
all_right p [] ys h = h
all_right p (x ∷ xs) ys h = all_right p xs ys (right_of (p x) (list_all p (xs ++ ys)) h)

-- two tests at once
all_both : {A : Type 0} (p q : A → Bool) (xs : List A) → list_all p xs ≡ true → list_all q xs ≡ true → list_all (λ x. p x && q x) xs ≡ true
all_both p q [] h k = refl
all_both p q (x ∷ xs) h k =
    both (p x && q x) (list_all (λ y. p y && q y) xs) (both (p x) (q x) (left_of (p x) (list_all p xs) h) (left_of (q x) (list_all q xs) k))
    (all_both p q xs (right_of (p x) (list_all p xs) h) (right_of (q x) (list_all q xs) k))

-- what holds of each part of a row of rows holds of each row
all_each : {A B : Type 0} (p : B → Bool) (f : A → List B) (q : A → Bool) (xs : List A) → ((x : A) → list_all p (f x) ≡ true → q x ≡ true) → list_all p (flat_map f xs) ≡ true → list_all q xs ≡ true
all_each p f q [] g h = refl
all_each p f q (x ∷ xs) g h = both (q x) (list_all q xs) (g x (all_left p (f x) (flat_map f xs) h)) (all_each p f q xs g (all_right p (f x) (flat_map f xs) h))

-- ---- values

part_values : (typed : Option Typed) → list_all has_values (option_to_list typed) ≡ true → are_values typed ≡ true
part_values None h = refl
part_values (Some t) h = left_of (has_values t) true h

abbrev ends_of : ModifierSpot → List Typed
ends_of m = option_to_list m.low ++ option_to_list m.high

module _ (scene : Scene) (expanded : IsExpanded scene) where
  abbrev of_occurrences : List Typed
  of_occurrences = flat_map (λ (o : Occurrence). option_to_list o.typed) scene.occurrences

  abbrev of_modifiers : List Typed
  of_modifiers = flat_map ends_of scene.modifiers

  pub occurrences_sound : list_all (is_sound_occurrence scene) scene.occurrences ≡ true
  occurrences_sound =
      all_both (λ (o : Occurrence). is_occurrence scene o o.mark.strength) (λ (o : Occurrence). are_values o.typed) scene.occurrences expanded.is_scene.occurrences
      (all_each has_values (λ (o : Occurrence). option_to_list o.typed) (λ (o : Occurrence). are_values o.typed) scene.occurrences (λ o h. part_values o.typed h) (all_left has_values of_occurrences of_modifiers expanded.all_values))

  pub modifiers_sound : IsLimited scene → list_all (is_sound_modifier scene) scene.modifiers ≡ true
  modifiers_sound limited =
      all_both (is_modifier scene) (λ m. is_narrow_range m && (are_values m.low && are_values m.high)) scene.modifiers expanded.is_scene.modifiers
      (all_both is_narrow_range (λ (m : ModifierSpot). are_values m.low && are_values m.high) scene.modifiers limited.narrow_ranges
      (all_each has_values ends_of (λ (m : ModifierSpot). are_values m.low && are_values m.high) scene.modifiers
      (λ m h. both (are_values m.low) (are_values m.high) (part_values m.low (all_left has_values (option_to_list m.low) (option_to_list m.high) h)) (part_values m.high (all_right has_values (option_to_list m.low) (option_to_list m.high) h)))
      (all_right has_values of_occurrences of_modifiers expanded.all_values)))

  -- ---- the setting and the slots

  pub few_ticks : scene.setting.ticks ≤ 600
  few_ticks = (setting_is scene.setting expanded.is_scene.setting).few_ticks

  pub short_tick : scene.setting.tick ≤ longest_tick
  short_tick = (setting_is scene.setting expanded.is_scene.setting).short_tick

  pub few_slots : past scene < 2 ^ 32
  few_slots = less (past scene) (2 ^ 32) expanded.is_scene.few_slots

-- ---- parts of the tests

pub record SoundModifier (scene : Scene) (m : ModifierSpot) : Type 0 where
  pub sound : is_modifier scene m ≡ true
  pub narrow : is_narrow_range m ≡ true
  pub low : are_values m.low ≡ true
  pub high : are_values m.high ≡ true

pub modifier_parts : (scene : Scene) (m : ModifierSpot) → is_sound_modifier scene m ≡ true → SoundModifier scene m
modifier_parts scene m h =
    let rest = right_of (is_modifier scene m) (is_narrow_range m && (are_values m.low && are_values m.high)) h in
    let ends = right_of (is_narrow_range m) (are_values m.low && are_values m.high) rest in
    record {
      sound = left_of (is_modifier scene m) (is_narrow_range m && (are_values m.low && are_values m.high)) h;
      narrow = left_of (is_narrow_range m) (are_values m.low && are_values m.high) rest;
      low = left_of (are_values m.low) (are_values m.high) ends;
      high = right_of (are_values m.low) (are_values m.high) ends;
    }

pub occurrence_sound : (scene : Scene) (o : Occurrence) → is_sound_occurrence scene o ≡ true → is_occurrence scene o o.mark.strength ≡ true
occurrence_sound scene o h = left_of (is_occurrence scene o o.mark.strength) (are_values o.typed) h

pub occurrence_values : (scene : Scene) (o : Occurrence) → is_sound_occurrence scene o ≡ true → are_values o.typed ≡ true
occurrence_values scene o h = right_of (is_occurrence scene o o.mark.strength) (are_values o.typed) h
