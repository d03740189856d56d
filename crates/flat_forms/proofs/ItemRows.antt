-- What each item of a scene gives, sort by sort.
use Rattle.std.proofs.Common.{◌≡◌, ℕ, refl, sym, ap, ap₂, ◌∙◌, List, [], ◌∷◌, ◌++◌, map}
use Rattle.std.specs.Prelude.{flat_map}
use Rattle.std.proofs.lemmas.List.{map-append}
use Rattle.osc_base.specs.declared.path.Path.{Path}
use Rattle.scene_rules.specs.composition.declared.spot.ValueSpot.{ValueSpot}
use Rattle.scene_rules.specs.composition.declared.spot.PhaseSpot.{PhaseSpot}
use Rattle.scene_rules.specs.composition.Scenes.{Scene, ModifierSpot, values, phases, vehicles}
use Rattle.scene_rules.specs.composition.Slots.{ticks_of}
use Rattle.scene_rules.specs.composition.Items.{Item, OfPhase, OfModifier, OfMotion, occurrence_items, typed_item, items}

mapped_each : {A B C : Type 0} (f : B → C) (g : A → List B) (xs : List A) → map f (flat_map g xs) ≡ flat_map (λ x. map f (g x)) xs
mapped_each f g [] = refl
mapped_each f g (x ∷ xs) = map-append f (g x) (flat_map g xs) ∙ ap (λ ys. map f (g x) ++ ys) (mapped_each f g xs)

mapped_twice : {A B C : Type 0} (f : B → C) (g : A → B) (xs : List A) → map f (map g xs) ≡ map (λ x. f (g x)) xs
mapped_twice f g [] = refl
mapped_twice f g (x ∷ xs) = ap (λ ys. f (g x) ∷ ys) (mapped_twice f g xs)

mapped_rows : {A B C D : Type 0} (f : C → D) (g : A → B → C) (ts : List B) (xs : List A) → map f (flat_map (λ x. map (g x) ts) xs) ≡ flat_map (λ x. map (λ t. f (g x t)) ts) xs
mapped_rows f g ts [] = refl
mapped_rows f g ts (x ∷ xs) =
    map-append f (map (g x) ts) (flat_map (λ y. map (g y) ts) xs) ∙ ap₂ (λ ys zs. ys ++ zs) (mapped_twice f (g x) ts) (mapped_rows f g ts xs)

module _ {X : Type 0} (f : Item → X) (scene : Scene) where
  abbrev pub of_constraints : List X
  of_constraints = map f (occurrence_items scene 0 scene.occurrences)

  abbrev pub of_values : List ValueSpot → List X
  of_values vs = flat_map (λ (v : ValueSpot). map f (typed_item v.path v.range)) vs

  abbrev pub of_phases : List PhaseSpot → List X
  of_phases ps = map (λ p. f (OfPhase p)) ps

  abbrev pub of_modifiers : List ℕ → List ModifierSpot → List X
  of_modifiers ts ms = flat_map (λ m. map (λ t. f (OfModifier m t)) ts) ms

  abbrev pub of_vehicles : List ℕ → List Path → List X
  of_vehicles ts ws = flat_map (λ w. map (λ t. f (OfMotion w t)) ts) ws

  by_sort : of_constraints ++ of_values (values scene) ++ of_phases (phases scene) ++ of_modifiers (ticks_of scene.setting) scene.modifiers ++ of_vehicles (ticks_of scene.setting) (vehicles scene) ≡ map f (items scene)
  by_sort =
      let a = occurrence_items scene 0 scene.occurrences in
      let b = flat_map (λ (v : ValueSpot). typed_item v.path v.range) (values scene) in
      let c = map OfPhase (phases scene) in
      let d = flat_map (λ m. map (OfModifier m) (ticks_of scene.setting)) scene.modifiers in
      let e = flat_map (λ w. map (OfMotion w) (ticks_of scene.setting)) (vehicles scene) in
      sym (
      map-append f (a ++ b ++ c ++ d) e
      ∙ ap₂ (λ ys zs. ys ++ zs) (
      map-append f (a ++ b ++ c) d
      ∙ ap₂ (λ ys zs. ys ++ zs) (
      map-append f (a ++ b) c
      ∙ ap₂ (λ ys zs. ys ++ zs) (map-append f a b ∙ ap (λ zs. map f a ++ zs) (mapped_each f (λ (v : ValueSpot). typed_item v.path v.range) (values scene))) (mapped_twice f OfPhase (phases scene))
      ) (mapped_rows f OfModifier (ticks_of scene.setting) scene.modifiers)
      ) (mapped_rows f OfMotion (ticks_of scene.setting) (vehicles scene))
      )

  -- a row that is made sort by sort
  pub all_made : (n₀ n₁ n₂ n₃ n₄ n₅ : List X) (vs : List ValueSpot) (ps : List PhaseSpot) (ms : List ModifierSpot) (ws : List Path) (ts : List ℕ) → n₀ ≡ []
      → n₁ ≡ n₀ ++ of_constraints → n₂ ≡ n₁ ++ of_values vs → n₃ ≡ n₂ ++ of_phases ps → n₄ ≡ n₃ ++ of_modifiers ts ms → n₅ ≡ n₄ ++ of_vehicles ts ws
      → vs ≡ values scene → ps ≡ phases scene → ms ≡ scene.modifiers → ws ≡ vehicles scene → ts ≡ ticks_of scene.setting → n₅ ≡ map f (items scene)
  all_made n₀ n₁ n₂ n₃ n₄ n₅ vs ps ms ws ts e₀ e₁ e₂ e₃ e₄ e₅ v p m w t =
      e₅ ∙ ap₂ (λ ns xs. ns ++ xs) (e₄ ∙ ap₂ (λ ns xs. ns ++ xs) (e₃ ∙ ap₂ (λ ns xs. ns ++ xs) (e₂ ∙ ap₂ (λ ns xs. ns ++ xs) (e₁ ∙ ap (λ ns. ns ++ of_constraints) e₀) (ap of_values v)) (ap of_phases p)) (ap₂ of_modifiers t m)) (ap₂ of_vehicles t w)
      ∙ by_sort
