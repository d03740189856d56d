-- The constraints of a scene are sound, and what it reads has values.
use Rattle.std.proofs.Common.{◌≡◌, ℕ, refl, sym, ap, ◌∙◌, subst, inl, inr, List, ◌++◌, true, false, ◌&&◌, Some, None, map}
use Rattle.std.specs.Prelude.{flat_map, option_to_list, option_map, is_none}
use Rattle.std.specs.Option.{option_map_or}
use Rattle.std.specs.List.{list_all}
use Rattle.osc_base.specs.declared.mark.Strength.{Strength}
use Rattle.osc_base.specs.declared.path.Path.{Path}
use Rattle.expr_eval.specs.type_heads.Types.{Types}
use Rattle.expr_eval.specs.expr_nodes.Kinds.{is_truth}
use Rattle.expr_eval.specs.expr_nodes.Parts.{is_scalar}
use Rattle.expr_eval.specs.expr_nodes.Sound.{is_sound, each_read}
use Rattle.expr_eval.specs.expr_nodes.Typed.{Typed, kind, moved}
use Rattle.run_values.specs.composition.declared.setting.Setting.{Setting}
use Rattle.run_values.specs.composition.Expanded.{bindings_of, can_be_asked, givens_of, is_readable, occurrence_of, scene, scene_from}
use Rattle.run_values.specs.composition.Expansion.{expansion}
use Rattle.run_values.specs.composition.Givens.{Given}
use Rattle.run_values.specs.composition.Homes.{home}
use Rattle.run_values.specs.composition.Invariants.{is_expression, is_occurrence, is_read, is_target}
use Rattle.run_values.specs.composition.Scenes.{Binding, ModifierSpot, Occurrence, Scene, source}
use Rattle.run_values.specs.composition.There.{read_by, removed}
use Rattle.run_values.specs.field_flatten.Exactness.{expressions}
use Rattle.run_values.specs.field_flatten.Seen.{has_values}
use Rattle.run_values.proofs.of_field_flatten.Tests.{all_at, all_from, both, In, in_either, in_filter, in_flat_map, in_left, flat_map_in, left_of, map_in}
use Rattle.scene_laws.proofs.MovedPaths.{kind_moved, scalar_moved, sound_moved, values_moved}
use Rattle.scene_laws.proofs.Picked.{of_option}
use Rattle.checkable_scenes.proofs.Inherited.{option_in}
use Rattle.checkable_scenes.proofs.SoundConstraints.{IsConstraint}
use Rattle.checkable_scenes.proofs.SoundFields.{TextsKnown}
use Rattle.checkable_scenes.proofs.SoundTexts.{all_sound}

module _ (ts : Types) (k : TextsKnown ts) (whole : ℕ) (setting : Setting)
    (reads : list_all (λ (x : Typed). each_read (λ i path per. is_read (scene ts whole setting) i path per (source (scene ts whole setting) path)) x) (expressions (scene ts whole setting)) ≡ true) where
  abbrev here : Scene
  here = scene ts whole setting

  -- the scene with all constraints and modifiers that the texts give
  abbrev from : Scene
  from = scene_from ts setting (expansion ts whole)

  abbrev bound : List Binding
  bound = bindings_of (expansion ts whole)

  -- the constraint of a text that an occurrence is
  given_of : (o : Occurrence) → In o here.occurrences → (g : Given) × In g (givens_of (expansion ts whole)) × (o ≡ occurrence_of bound g) × (can_be_asked from o ≡ true)
  given_of o i =
      let f = in_filter (can_be_asked from) (map (occurrence_of bound) (givens_of (expansion ts whole))) o i in
      let m = map_in (occurrence_of bound) (givens_of (expansion ts whole)) o f.0 in
      (m.0, m.1, m.2, f.1)

  -- a `remove_default` has a target
  removed_right : (g : Given) → can_be_asked from (occurrence_of bound g) ≡ true → g.strength ≡ Strength.Remove → g.typed ≡ None → (p : Path) → g.target ≡ Some p → is_occurrence here (occurrence_of bound g) g.strength ≡ true
  removed_right g asked strength none p target =
      let first = subst (λ o. list_all (is_readable from) (read_by (option_map (moved (home bound)) o) ++ removed (record { target = option_map (home bound) g.target; strength = g.strength })) ≡ true) none asked in
      let second = subst (λ o. list_all (is_readable from) (removed (record { target = option_map (home bound) o; strength = g.strength })) ≡ true) target first in
      let third = subst (λ s. list_all (is_readable from) (removed (record { target = Some (home bound p); strength = s })) ≡ true) strength second in
      subst (λ s. is_occurrence here (occurrence_of bound g) s ≡ true) (sym strength)
      (subst (λ o. is_none (option_map (moved (home bound)) o) && option_map_or (λ (p : Path). is_target here p (source here p)) (option_map (home bound) g.target) false ≡ true) (sym none)
      (subst (λ o. option_map_or (λ (p : Path). is_target here p (source here p)) (option_map (home bound) o) false ≡ true) (sym target) (left_of (is_readable here (home bound p)) true third)))

  -- a hard constraint or a default has a sound truth value
  kept_right : (g : Given) → In (occurrence_of bound g) here.occurrences → (g.strength ≡ Strength.Remove → ⊥) → (x : Typed) → g.typed ≡ Some x → IsConstraint x → is_occurrence here (occurrence_of bound g) g.strength ≡ true
  kept_right g i stays x is c = by g.strength refl
    where
      typed_is : option_map (moved (home bound)) g.typed ≡ Some (moved (home bound) x)
      typed_is = ap (λ o. option_map (moved (home bound)) o) is

      listed : In (moved (home bound) x) (expressions here)
      listed = in_left (moved (home bound) x) (flat_map (λ (o : Occurrence). option_to_list o.typed) here.occurrences) (flat_map (λ (m : ModifierSpot). option_to_list m.low ++ option_to_list m.high) here.modifiers)
          (in_flat_map (λ (o : Occurrence). option_to_list o.typed) here.occurrences (occurrence_of bound g) (moved (home bound) x) i (option_in (option_map (moved (home bound)) g.typed) (moved (home bound) x) typed_is))

      right : option_map_or (λ (t : Typed). is_truth (kind t) && is_expression here t) (option_map (moved (home bound)) g.typed) false ≡ true
      right =
          subst (λ o. option_map_or (λ (t : Typed). is_truth (kind t) && is_expression here t) o false ≡ true) (sym typed_is)
          (both (is_truth (kind (moved (home bound) x))) _ (ap is_truth (kind_moved (home bound) x) ∙ c.truth)
          (both (is_scalar (moved (home bound) x)) _ (scalar_moved (home bound) x ∙ c.scalar)
          (both (is_sound (moved (home bound) x)) _ (sound_moved (home bound) x ∙ c.sound)
          (all_at (λ (x : Typed). each_read (λ i path per. is_read (scene ts whole setting) i path per (source (scene ts whole setting) path)) x) (expressions here) reads (moved (home bound) x) listed))))

      by : (s : Strength) → g.strength ≡ s → is_occurrence here (occurrence_of bound g) s ≡ true
      by Strength.Hard e = right
      by Strength.Default e = right
      by Strength.Remove e = absurd (stays e)

  pub occurrences_right : list_all (λ (o : Occurrence). is_occurrence here o o.mark.strength) here.occurrences ≡ true
  occurrences_right = all_from (λ (o : Occurrence). is_occurrence here o o.mark.strength) here.occurrences (λ o i.
      let g = given_of o i in
      subst (λ (z : Occurrence). is_occurrence here z z.mark.strength ≡ true) (sym g.2)
      (elim (all_sound ts k whole g.0 g.1) as (λ _. is_occurrence here (occurrence_of bound g.0) g.0.strength ≡ true) [
        | inl r ↦ removed_right g.0 (subst (λ z. can_be_asked from z ≡ true) g.2 g.3) r.0 r.1 r.2.0 r.2.1
        | inr r ↦ kept_right g.0 (subst (λ z. In z here.occurrences) g.2 i) r.0 r.1.0 r.1.1 r.1.2
      ]))

  -- what a constraint's expression reads has a value
  occurrence_valued : (o : Occurrence) → In o here.occurrences → (x : Typed) → o.typed ≡ Some x → has_values x ≡ true
  occurrence_valued o i x e =
      let g = given_of o i in
      let is : option_map (moved (home bound)) g.0.typed ≡ Some x = sym (ap (λ (z : Occurrence). z.typed) g.2) ∙ e in
      elim (all_sound ts k whole g.0 g.1) as (λ _. has_values x ≡ true) [
        | inl r ↦ absurd (never (sym (ap (λ o. option_map (moved (home bound)) o) r.1) ∙ is))
        | inr r ↦ subst (λ z. has_values z ≡ true) (some_same (sym (ap (λ o. option_map (moved (home bound)) o) r.1.1) ∙ is)) (values_moved (home bound) r.1.0 ∙ r.1.2.values)
      ]
    where
      never : None ≡ Some x → ⊥
      never q = cc

      some_same : {a b : Typed} → Some a ≡ Some b → a ≡ b
      some_same q = cc

  pub all_valued : ((x : Typed) → In x (flat_map (λ (m : ModifierSpot). option_to_list m.low ++ option_to_list m.high) here.modifiers) → has_values x ≡ true) → list_all has_values (expressions here) ≡ true
  all_valued ends = all_from has_values (expressions here) (λ x i.
      elim (in_either x (flat_map (λ (o : Occurrence). option_to_list o.typed) here.occurrences) (flat_map (λ (m : ModifierSpot). option_to_list m.low ++ option_to_list m.high) here.modifiers) i) as (λ _. has_values x ≡ true) [
        | inl j ↦ let o = flat_map_in (λ (o : Occurrence). option_to_list o.typed) here.occurrences x j in occurrence_valued o.0 o.1 x (of_option o.0.typed x o.2)
        | inr j ↦ ends x j
      ])
