-- Conditions stay grounded when lists of them are joined, and when each is kept once.
use Rattle.std.proofs.Common.{◌≡◌, refl, sym, ◌∙◌, subst, ◌⊎◌, inl, inr, List, [], ◌∷◌, ◌++◌, Bool, true, false, ◌&&◌, ◌||◌, Option, Some, None}
use Rattle.std.specs.Prelude.{flat_map, option_to_list, option_and_then}
use Rattle.std.specs.Option.{option_map_or, option_or}
use Rattle.std.specs.List.{list_all, list_any}
use Rattle.field_flatten.specs.osc_base.declared.path.Path.{Path}
use Rattle.field_flatten.specs.osc_base.Paths.{same_path, path_of, timed_part}
use Rattle.expansion_laws.specs.composition.declared.guard.Guard.{Guard}
use Rattle.expansion_laws.specs.composition.Scenes.{Scene, Spot, Occurrence, ModifierSpot, spot_at, guards}
use Rattle.expansion_laws.specs.composition.There.{same_guard, once, once_after, read_by, removed, presence, modifier_presence}
use Rattle.expansion_laws.specs.composition.Invariants.{are_grounded, is_guard, guard_path}
use Rattle.field_flatten.specs.Exactness.{is_small_guard, are_small_guards}
use Rattle.field_flatten.proofs.Tests.{left_of, right_of, both, two_ways, all_at, all_from, all_append, found_in}
use Rattle.field_flatten.proofs.Presence.{guard_is, guards_grounded, once_same}
use Rattle.scene_laws.specs.Premises.{are_held}

-- what stands in one list stands in another
abbrev Within : List Guard → List Guard → Type 0
Within some more = (h : Guard) → list_any (same_guard h) some ≡ true → list_any (same_guard h) more ≡ true

within_next : (g : Guard) (some more : List Guard) → Within some more → Within (g ∷ some) (g ∷ more)
within_next g some more f h e = by (same_guard h g) e
  where
    by : (b : Bool) → b || list_any (same_guard h) some ≡ true → b || list_any (same_guard h) more ≡ true
    by true i = refl
    by false i = f h i

-- conditions after some others
abbrev pub after : List Guard → List Guard → List Guard
after before [] = before
after before (g ∷ gs) = after (g ∷ before) gs

within_after : (before gs : List Guard) → Within before (after before gs)
within_after before [] h e = e
within_after before (g ∷ gs) h e = within_after (g ∷ before) gs h (by (same_guard h g))
  where
    by : (b : Bool) → b || list_any (same_guard h) before ≡ true
    by true = refl
    by false = e

module _ (scene : Scene) where
  abbrev Early : Guard → List Guard → Bool
  Early g before = list_all (λ (h : Guard). list_any (same_guard h) before) (guards scene (guard_path g))

  early_more : (g : Guard) (some more : List Guard) → Within some more → Early g some ≡ true → Early g more ≡ true
  early_more g some more f h = all_from (λ (h : Guard). list_any (same_guard h) more) (guards scene (guard_path g)) (λ x i. f x (all_at (λ (h : Guard). list_any (same_guard h) some) (guards scene (guard_path g)) h x i))

  pub grounded_more : (some more gs : List Guard) → Within some more → are_grounded scene some gs ≡ true → are_grounded scene more gs ≡ true
  grounded_more some more [] f h = refl
  grounded_more some more (g ∷ gs) f h =
      let here = left_of (Early g some && is_guard scene g) (are_grounded scene (g ∷ some) gs) h in
      both (Early g more && is_guard scene g) (are_grounded scene (g ∷ more) gs)
      (both (Early g more) (is_guard scene g) (early_more g some more f (left_of (Early g some) (is_guard scene g) here)) (right_of (Early g some) (is_guard scene g) here))
      (grounded_more (g ∷ some) (g ∷ more) gs (within_next g some more f) (right_of (Early g some && is_guard scene g) (are_grounded scene (g ∷ some) gs) h))

  pub grounded_append : (before gs hs : List Guard) → are_grounded scene before gs ≡ true → are_grounded scene (after before gs) hs ≡ true → are_grounded scene before (gs ++ hs) ≡ true
  grounded_append before [] hs h i = i
  grounded_append before (g ∷ gs) hs h i =
      both (Early g before && is_guard scene g) (are_grounded scene (g ∷ before) (gs ++ hs)) (left_of (Early g before && is_guard scene g) (are_grounded scene (g ∷ before) gs) h)
      (grounded_append (g ∷ before) gs hs (right_of (Early g before && is_guard scene g) (are_grounded scene (g ∷ before) gs) h) i)

  -- lists that are grounded each by itself
  pub grounded_beside : (gs hs : List Guard) → are_grounded scene [] gs ≡ true → are_grounded scene [] hs ≡ true → are_grounded scene [] (gs ++ hs) ≡ true
  grounded_beside gs hs h i = grounded_append [] gs hs h (grounded_more [] (after [] gs) hs (within_after [] gs) i)

  once_from : (seen before gs : List Guard) → Within before seen → are_grounded scene before gs ≡ true → are_grounded scene seen (once_after seen gs) ≡ true
  once_from seen before [] f h = refl
  once_from seen before (g ∷ gs) f h =
      let here = left_of (Early g before && is_guard scene g) (are_grounded scene (g ∷ before) gs) h in
      let later = right_of (Early g before && is_guard scene g) (are_grounded scene (g ∷ before) gs) h in
      two_ways (list_any (same_guard g) seen)
      (λ e. rw e (once_from seen (g ∷ before) gs (there e) later))
      (λ e. rw e (both (Early g seen && is_guard scene g) (are_grounded scene (g ∷ seen) (once_after (g ∷ seen) gs))
      (both (Early g seen) (is_guard scene g) (early_more g before seen f (left_of (Early g before) (is_guard scene g) here)) (right_of (Early g before) (is_guard scene g) here))
      (once_from (g ∷ seen) (g ∷ before) gs (within_next g before seen f) later)))
    where
      there : list_any (same_guard g) seen ≡ true → Within (g ∷ before) seen
      there e k i = by (same_guard k g) refl i
        where
          by : (b : Bool) → same_guard k g ≡ b → b || list_any (same_guard k) before ≡ true → list_any (same_guard k) seen ≡ true
          by true same j = subst (λ z. list_any (same_guard z) seen ≡ true) (sym (guard_is k g same)) e
          by false same j = f k j

  pub once_grounded : (gs : List Guard) → are_grounded scene [] gs ≡ true → are_grounded scene [] (once gs) ≡ true
  once_grounded gs h = once_from [] [] gs (λ g e. e) h

  -- ---- constraints and modifiers

  module _ (spots : list_all (λ (s : Spot). are_grounded scene [] s.guards) scene.spots ≡ true) where
    paths_grounded : (paths : List Path) → are_grounded scene [] (flat_map (guards scene) paths) ≡ true
    paths_grounded [] = refl
    paths_grounded (p ∷ ps) = grounded_beside (guards scene p) (flat_map (guards scene) ps) (guards_grounded scene spots p) (paths_grounded ps)

    pub presence_grounded : (o : Occurrence) → are_held scene o ≡ true → are_grounded scene [] (presence scene o) ≡ true
    presence_grounded o h =
        once_grounded (guards scene o.holder ++ o.under ++ flat_map (guards scene) (read_by o.typed ++ removed o.mark))
        (grounded_beside (guards scene o.holder ++ o.under) (flat_map (guards scene) (read_by o.typed ++ removed o.mark)) h (paths_grounded (read_by o.typed ++ removed o.mark)))

    pub modifier_grounded : (m : ModifierSpot) → are_grounded scene [] (modifier_presence scene m) ≡ true
    modifier_grounded m =
        once_grounded (flat_map (guards scene) (m.phase ∷ m.own ∷ option_to_list m.other ++ read_by m.low ++ read_by m.high)) (paths_grounded (m.phase ∷ m.own ∷ option_to_list m.other ++ read_by m.low ++ read_by m.high))

    pub all_occurrences_grounded : list_all (are_held scene) scene.occurrences ≡ true → list_all (λ (o : Occurrence). are_grounded scene [] (presence scene o)) scene.occurrences ≡ true
    all_occurrences_grounded h = all_from (λ (o : Occurrence). are_grounded scene [] (presence scene o)) scene.occurrences (λ o i. presence_grounded o (all_at (are_held scene) scene.occurrences h o i))

    pub all_modifiers_grounded : list_all (λ (m : ModifierSpot). are_grounded scene [] (modifier_presence scene m)) scene.modifiers ≡ true
    all_modifiers_grounded = all_from (λ (m : ModifierSpot). are_grounded scene [] (modifier_presence scene m)) scene.modifiers (λ m i. modifier_grounded m)

  -- ---- small numbers

  module _ (spots : list_all (λ (s : Spot). are_small_guards s.guards) scene.spots ≡ true) where
    small_at : (path : Path) → are_small_guards (guards scene path) ≡ true
    small_at path = by (option_or (spot_at scene path) (option_and_then (λ steps. spot_at scene (path_of steps)) (timed_part path.steps))) refl
      where
        of_spot : (p : Path) (s : Spot) → spot_at scene p ≡ Some s → are_small_guards s.guards ≡ true
        of_spot p s e = all_at (λ (t : Spot). are_small_guards t.guards) scene.spots spots s (found_in (λ (t : Spot). same_path t.path p) scene.spots s e).0

        by_or : (a b : Option Spot) (s : Spot) → option_or a b ≡ Some s → (a ≡ Some s) ⊎ (b ≡ Some s)
        by_or None b s e = inr e
        by_or (Some a) b s e = inl e

        timed : (steps : Option _) (s : Spot) → option_and_then (λ steps. spot_at scene (path_of steps)) steps ≡ Some s → are_small_guards s.guards ≡ true
        timed None s e = cc
        timed (Some steps) s e = of_spot (path_of steps) s e

        by : (o : Option Spot) → option_or (spot_at scene path) (option_and_then (λ steps. spot_at scene (path_of steps)) (timed_part path.steps)) ≡ o
            → are_small_guards (option_map_or (λ s. s.guards) o []) ≡ true
        by None e = refl
        by (Some s) e = elim (by_or (spot_at scene path) (option_and_then (λ steps. spot_at scene (path_of steps)) (timed_part path.steps)) s e) as (λ _. are_small_guards s.guards ≡ true) [
          | inl f ↦ of_spot path s f
          | inr f ↦ timed (timed_part path.steps) s f
        ]

    beside : (gs hs : List Guard) → are_small_guards gs ≡ true → are_small_guards hs ≡ true → are_small_guards (gs ++ hs) ≡ true
    beside gs hs h i = all_append is_small_guard gs hs ∙ both (are_small_guards gs) (are_small_guards hs) h i

    paths_small : (paths : List Path) → are_small_guards (flat_map (guards scene) paths) ≡ true
    paths_small [] = refl
    paths_small (p ∷ ps) = beside (guards scene p) (flat_map (guards scene) ps) (small_at p) (paths_small ps)

    pub presence_small : (o : Occurrence) → are_small_guards o.under ≡ true → are_small_guards (presence scene o) ≡ true
    presence_small o h =
        let rest = flat_map (guards scene) (read_by o.typed ++ removed o.mark) in
        once_same is_small_guard (guards scene o.holder ++ o.under ++ rest)
        ∙ beside (guards scene o.holder ++ o.under) rest (beside (guards scene o.holder) o.under (small_at o.holder) h) (paths_small (read_by o.typed ++ removed o.mark))

    pub modifier_small : (m : ModifierSpot) → are_small_guards (modifier_presence scene m) ≡ true
    modifier_small m =
        let paths = m.phase ∷ m.own ∷ option_to_list m.other ++ read_by m.low ++ read_by m.high in
        once_same is_small_guard (flat_map (guards scene) paths) ∙ paths_small paths

    pub all_occurrences_small : list_all (λ (o : Occurrence). are_small_guards o.under) scene.occurrences ≡ true → list_all (λ (o : Occurrence). are_small_guards (presence scene o)) scene.occurrences ≡ true
    all_occurrences_small h = all_from (λ (o : Occurrence). are_small_guards (presence scene o)) scene.occurrences (λ o i. presence_small o (all_at (λ (o : Occurrence). are_small_guards o.under) scene.occurrences h o i))

    pub all_modifiers_small : list_all (λ (m : ModifierSpot). are_small_guards (modifier_presence scene m)) scene.modifiers ≡ true
    all_modifiers_small = all_from (λ (m : ModifierSpot). are_small_guards (modifier_presence scene m)) scene.modifiers (λ m i. modifier_small m)
