-- Names, tick by tick and sort by sort.
use Rattle.std.proofs.Common.{◌≡◌, ℕ, zero, suc, ◌+◌, sym, ap, ap₂, ◌∙◌, List, [], ◌++◌, arith}
use Rattle.std.specs.Prelude.{flat_map}
use Rattle.std.specs.List.{range_with_len}
use Rattle.std.proofs.lemmas.List.{append_assoc, append-nil}
use Rattle.osc_base.specs.declared.path.Path.{Path}
use Rattle.osc_base.specs.declared.listing.SlotName.{SlotName}
use Rattle.flat_shapes.specs.composition.declared.spot.ChoiceSpot.{ChoiceSpot}
use Rattle.flat_shapes.specs.composition.declared.spot.ValueSpot.{ValueSpot}
use Rattle.flat_shapes.specs.composition.declared.spot.PhaseSpot.{PhaseSpot}
use Rattle.flat_shapes.specs.composition.Scenes.{Scene, choices, values, phases, vehicles}
use Rattle.flat_shapes.specs.composition.Slots.{sample_names, slot_names}
use Rattle.scene_slots.specs.NameRows.{choice_names, phase_names, value_names, track_names}

-- up to one tick more
tick_more : {X : Type 0} (f : ℕ → List X) (a n j : ℕ) → a + n ≡ j → flat_map f (range_with_len a (suc n)) ≡ flat_map f (range_with_len a n) ++ f j
tick_more f a zero j is = append-nil (f a) ∙ ap f (omega (arith, is))
tick_more f a (suc n) j is =
    ap (λ xs. f a ++ xs) (tick_more f (a + 1) n j (omega (arith, is)))
    ∙ sym (append_assoc (f a) (flat_map f (range_with_len (a + 1) n)) (f j))

pub to_tick : {X : Type 0} (f : ℕ → List X) (t : ℕ) → flat_map f (range_with_len 0 (t + 1)) ≡ flat_map f (range_with_len 0 t) ++ f t
to_tick f t =
    let e : t + 1 ≡ suc t = omega arith in
    let z : 0 + t ≡ t = omega arith in
    ap (λ n. flat_map f (range_with_len 0 n)) e ∙ tick_more f 0 t t z

-- the names of a vehicle, with those of one tick more
pub tick_named : (old now new : List SlotName) (w : Path) (t : ℕ) → now ≡ old ++ flat_map (sample_names w) (range_with_len 0 t) → new ≡ now ++ sample_names w t
    → new ≡ old ++ flat_map (sample_names w) (range_with_len 0 (t + 1))
tick_named old now new w t is more =
    more ∙ ap (λ ns. ns ++ sample_names w t) is ∙ append_assoc old (flat_map (sample_names w) (range_with_len 0 t)) (sample_names w t)
    ∙ ap (λ ns. old ++ ns) (sym (to_tick (sample_names w) t))

-- ---- all names

module _ (scene : Scene) where
  pub all_names : (n₀ n₁ n₂ n₃ n₄ : List SlotName) (cs : List ChoiceSpot) (ps : List PhaseSpot) (vs : List ValueSpot) (ws : List Path) (count : ℕ) → n₀ ≡ []
      → n₁ ≡ n₀ ++ choice_names cs → n₂ ≡ n₁ ++ phase_names ps → n₃ ≡ n₂ ++ value_names vs → n₄ ≡ n₃ ++ track_names (range_with_len 0 count) ws
      → cs ≡ choices scene → ps ≡ phases scene → vs ≡ values scene → ws ≡ vehicles scene → count ≡ scene.setting.ticks + 1 → n₄ ≡ slot_names scene
  all_names n₀ n₁ n₂ n₃ n₄ cs ps vs ws count e₀ e₁ e₂ e₃ e₄ c p v w t =
      e₄ ∙ ap₂ (λ ns ms. ns ++ ms) (e₃ ∙ ap₂ (λ ns ms. ns ++ ms) (e₂ ∙ ap₂ (λ ns ms. ns ++ ms) (e₁ ∙ ap₂ (λ ns ms. ns ++ ms) e₀ (ap choice_names c)) (ap phase_names p)) (ap value_names v))
      (λ i. track_names (range_with_len 0 (t i)) (w i))
