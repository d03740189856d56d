-- The spots of one sort.
use Rattle.std.proofs.Common.{◌≡◌, ◌∙◌, refl, sym, ap, ℕ, ◌+◌, ◌<◌, List, [], ◌∷◌, ◌++◌, Option, Some, None, map, take, length, get_or}
use Rattle.std.specs.Prelude.{filter_map, option_to_list}
use Rattle.std.specs.List.{cons_option}
use Rattle.std.proofs.lemmas.List.{take_more}
use Rattle.composition.specs.declared.scene.Scene.{Scene}
use Rattle.composition.specs.SeenParts.{seen_spot}
use Rattle.composition.specs.SeenScenes.{seen_scene}
use Rattle.composition.specs.Scenes as Scenes
use Rattle.composition.specs.Scenes.{choice_spot, value_spot, phase_spot, vehicle_spot, choices, values, phases, vehicles}

-- a sort of what things stand for
seen_sort : {A B C : Type 0} (see : A → B) (f : B → Option C) (xs : List A) → filter_map (λ x. f (see x)) xs ≡ filter_map f (map see xs)
seen_sort see f [] = refl
seen_sort see f (x ∷ xs) = ap (cons_option (f (see x))) (seen_sort see f xs)

-- the lists of a scene are the definitions'
module _ (s : Scene) where
  pub choices_seen : s.lists.choices ≡ choices (seen_scene s)
  choices_seen = s.choices_are ∙ seen_sort seen_spot (λ (t : Scenes.Spot). choice_spot t.path t.content) s.spots

  pub values_seen : s.lists.values ≡ values (seen_scene s)
  values_seen = s.values_are ∙ seen_sort seen_spot (λ (t : Scenes.Spot). value_spot t.path t.content) s.spots

  pub phases_seen : s.lists.phases ≡ phases (seen_scene s)
  phases_seen = s.phases_are ∙ seen_sort seen_spot (λ (t : Scenes.Spot). phase_spot t.path t.content) s.spots

  pub vehicles_seen : s.lists.vehicles ≡ vehicles (seen_scene s)
  vehicles_seen = s.vehicles_are ∙ seen_sort seen_spot (λ (t : Scenes.Spot). vehicle_spot t.path t.content) s.spots

-- ---- one spot more

module _ {A B : Type 0} (f : A → Option B) where
  cons_more : (o : Option B) (xs ys : List B) → cons_option o (xs ++ ys) ≡ cons_option o xs ++ ys
  cons_more None xs ys = refl
  cons_more (Some y) xs ys = refl

  cons_last : (o : Option B) → cons_option o [] ≡ option_to_list o
  cons_last None = refl
  cons_last (Some y) = refl

  at_end : (xs : List A) (x : A) → filter_map f (xs ++ x ∷ []) ≡ filter_map f xs ++ option_to_list (f x)
  at_end [] x = cons_last (f x)
  at_end (y ∷ ys) x = ap (cons_option (f y)) (at_end ys x) ∙ cons_more (f y) (filter_map f ys) (option_to_list (f x))

  pub sort_more : (xs : List A) (i : ℕ) (x : A) (old new : List B) (o : Option B) → i < length xs → x ≡ get_or xs i x
      → old ≡ filter_map f (take i xs) → o ≡ f x → new ≡ old ++ option_to_list o → new ≡ filter_map f (take (i + 1) xs)
  sort_more xs i x old new o lt at before is after =
      after ∙ (λ k. before k ++ option_to_list (is k)) ∙ ap (λ y. filter_map f (take i xs) ++ option_to_list (f y)) at
      ∙ sym (at_end (take i xs) (get_or xs i x)) ∙ ap (filter_map f) (sym (take_more xs i x lt))
