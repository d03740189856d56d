-- Whether a scene is too large, by its counts.
use Rattle.std.proofs.Common.{◌≡◌, ℕ, ◌+◌, ◌*◌, ◌<◌, ◌≤◌, true, List, [], ◌∷◌, ◌∙◌, length, map, refl, ap, ap₂, arith}
use Rattle.std.proofs.lemmas.Bool.Decides.{nat_tests}
use Rattle.composition.specs.type_heads.Types.{Types}
use Rattle.composition.specs.declared.setting.Setting.{Setting}
use Rattle.composition.specs.Scenes.{Occurrence, ModifierSpot}
use Rattle.composition.specs.Expansion.{GivenModifier, Expansion}
use Rattle.composition.specs.Expanded.{spots_of, bindings_of, givens_of, modifiers_of, occurrence_of, modifier_of, scene_from}
use Rattle.composition.specs.SceneFaults.{token_count, passes}
use Rattle.composition.specs.Slots.{slot_names}
use Rattle.composition.specs.Items.{items}
use Rattle.expansion_laws.specs.Counts.{total, spot_objects, spot_slots, spot_rules, samples_of, strength_rules, given_rules, given_tokens, modifier_tokens, is_past}
use Rattle.expansion_laws.proofs.SceneCounts.{total_is, objects_are, slots_are, rules_are, spots_counted}

total_of_map : {X Y : Type 0} (f : Y → ℕ) (g : X → Y) (xs : List X) → total f (map g xs) ≡ total (λ x. f (g x)) xs
total_of_map f g [] = refl
total_of_map f g (x ∷ xs) = ap (λ n. f (g x) + n) (total_of_map f g xs)

module _ (ts : Types) (setting : Setting) (tree : Expansion) where
  rules_counted : length (items (scene_from ts setting tree)) ≡ total given_rules (givens_of tree) + (total (spot_rules (setting.ticks + 1)) (spots_of ts tree) + total (λ (m : GivenModifier). setting.ticks + 1) (modifiers_of tree))
  rules_counted =
      rules_are (scene_from ts setting tree)
      ∙ ap₂ (λ n m. n + (total (spot_rules (setting.ticks + 1)) (spots_of ts tree) + m))
      (total_of_map (λ (o : Occurrence). strength_rules o.mark.strength) (occurrence_of (bindings_of tree)) (givens_of tree))
      (total_of_map (λ (m : ModifierSpot). setting.ticks + 1) (λ (g : GivenModifier). modifier_of (bindings_of tree) g.modifier) (modifiers_of tree))

  tokens_counted : token_count tree setting ≡ total given_tokens (givens_of tree) + (setting.ticks + 1) * total modifier_tokens (modifiers_of tree)
  tokens_counted = ap₂ (λ n m. n + (setting.ticks + 1) * m) (total_is given_tokens (givens_of tree)) (total_is modifier_tokens (modifiers_of tree))

  pub passes_is : passes tree (scene_from ts setting tree)
      ≡ is_past (total spot_objects (spots_of ts tree)) (total (spot_slots (samples_of setting.ticks)) (spots_of ts tree))
      (total given_rules (givens_of tree) + (total (spot_rules (setting.ticks + 1)) (spots_of ts tree) + total (λ (m : GivenModifier). setting.ticks + 1) (modifiers_of tree)))
      (total given_tokens (givens_of tree) + (setting.ticks + 1) * total modifier_tokens (modifiers_of tree))
  passes_is =
      ap (λ n. is_past n (length (slot_names (scene_from ts setting tree))) (length (items (scene_from ts setting tree))) (token_count tree setting)) (objects_are (scene_from ts setting tree))
      ∙ ap (λ n. is_past (total spot_objects (spots_of ts tree)) n (length (items (scene_from ts setting tree))) (token_count tree setting)) (slots_are (scene_from ts setting tree))
      ∙ ap₂ (λ n m. is_past (total spot_objects (spots_of ts tree)) (total (spot_slots (samples_of setting.ticks)) (spots_of ts tree)) n m) rules_counted tokens_counted

-- more objects and slots than both limits allow
past_by_two : (objects slots rules tokens : ℕ) → 131072 < objects + slots → is_past objects slots rules tokens ≡ true
past_by_two o s r k many = grind (arith, nat_tests)

-- so many spots pass a limit
pub many_spots : (ts : Types) (setting : Setting) (tree : Expansion) → 131072 < length (spots_of ts tree) → passes tree (scene_from ts setting tree) ≡ true
many_spots ts setting tree many =
    let counted : length (spots_of ts tree) ≤ total spot_objects (spots_of ts tree) + total (spot_slots (samples_of setting.ticks)) (spots_of ts tree) =
    spots_counted (samples_of setting.ticks) (spots_of ts tree) in
    passes_is ts setting tree
    ∙ past_by_two (total spot_objects (spots_of ts tree)) (total (spot_slots (samples_of setting.ticks)) (spots_of ts tree))
    (total given_rules (givens_of tree) + (total (spot_rules (setting.ticks + 1)) (spots_of ts tree) + total (λ (m : GivenModifier). setting.ticks + 1) (modifiers_of tree)))
    (total given_tokens (givens_of tree) + (setting.ticks + 1) * total modifier_tokens (modifiers_of tree))
    (omega (arith, counted, many))
