-- Two tests of conditions that agree where all earlier conditions hold agree on grounded conditions.
use Rattle.std.proofs.Common.{◌≡◌, refl, sym, ap₂, ◌⊎◌, inl, inr, List, [], ◌∷◌, Bool, true, false, ◌&&◌, Option, Some, None, arith, true≢false}
use Rattle.std.specs.Prelude.{ℤ, nat_eq, option_and_then}
use Rattle.std.specs.Option.{option_map_or, option_or}
use Rattle.std.specs.List.{list_any, list_all}
use Rattle.std.proofs.lemmas.Int.{ints}
use Rattle.osc_base.specs.declared.path.Path.{Path}
use Rattle.osc_base.specs.Comparisons.{same_number}
use Rattle.osc_base.specs.Paths.{same_path, path_of, timed_part}
use Rattle.composition.specs.declared.guard.Guard.{Guard}
use Rattle.composition.specs.Scenes.{Scene, Spot, spot_at, guards}
use Rattle.composition.specs.There.{same_guard, once, once_after}
use Rattle.composition.specs.Invariants.{are_grounded, is_guard, guard_path}
use Rattle.field_flatten.proofs.Tests.{left_of, right_of, both, two_ways, number_is, path_is, all_at, all_from, any_at, found_in}

pub same_number_is : (a b : ℤ) → same_number a b ≡ true → a ≡ b
same_number_is a b h = grind (arith, ints)

pub same_number_self : (a : ℤ) → same_number a a ≡ true
same_number_self a = grind (arith, ints)

pub guard_is : (a b : Guard) → same_guard a b ≡ true → a ≡ b
guard_is (Guard.Choice p m) (Guard.Choice q n) h = ap₂ Guard.Choice (path_is p q (right_of (nat_eq m n) (same_path p q) h)) (number_is m n (left_of (nat_eq m n) (same_path p q) h))
guard_is (Guard.Value p v) (Guard.Value q w) h = ap₂ Guard.Value (path_is p q (right_of (same_number v w) (same_path p q) h)) (same_number_is v w (left_of (same_number v w) (same_path p q) h))
guard_is (Guard.Choice p m) (Guard.Value q w) h = absurd (true≢false (sym h))
guard_is (Guard.Value p v) (Guard.Choice q n) h = absurd (true≢false (sym h))

module _ (scene : Scene) where
  -- the conditions of each path are grounded
  pub guards_grounded : list_all (λ (s : Spot). are_grounded scene [] s.guards) scene.spots ≡ true → (path : Path) → are_grounded scene [] (guards scene path) ≡ true
  guards_grounded h path = by (option_or (spot_at scene path) (option_and_then (λ steps. spot_at scene (path_of steps)) (timed_part path.steps))) refl
    where
      of_spot : (p : Path) (s : Spot) → spot_at scene p ≡ Some s → are_grounded scene [] s.guards ≡ true
      of_spot p s e = all_at (λ (t : Spot). are_grounded scene [] t.guards) scene.spots h s (found_in (λ (t : Spot). same_path t.path p) scene.spots s e).0

      by_or : (a b : Option Spot) (s : Spot) → option_or a b ≡ Some s → (a ≡ Some s) ⊎ (b ≡ Some s)
      by_or None b s e = inr e
      by_or (Some a) b s e = inl e

      timed : (steps : Option _) (s : Spot) → option_and_then (λ steps. spot_at scene (path_of steps)) steps ≡ Some s → are_grounded scene [] s.guards ≡ true
      timed None s e = cc
      timed (Some steps) s e = of_spot (path_of steps) s e

      by : (o : Option Spot) → option_or (spot_at scene path) (option_and_then (λ steps. spot_at scene (path_of steps)) (timed_part path.steps)) ≡ o
          → are_grounded scene [] (option_map_or (λ s. s.guards) o []) ≡ true
      by None e = refl
      by (Some s) e = elim (by_or (spot_at scene path) (option_and_then (λ steps. spot_at scene (path_of steps)) (timed_part path.steps)) s e) as (λ _. are_grounded scene [] s.guards ≡ true) [
        | inl f ↦ of_spot path s f
        | inr f ↦ timed (timed_part path.steps) s f
      ]

  module _ (one other : Guard → Bool)
      (agree : (g : Guard) → is_guard scene g ≡ true → list_all one (guards scene (guard_path g)) ≡ true → list_all other (guards scene (guard_path g)) ≡ true → one g ≡ other g) where
    abbrev Earlier : Guard → List Guard → Bool
    Earlier g before = list_all (λ (h : Guard). list_any (same_guard h) before) (guards scene (guard_path g))

    earlier : (test : Guard → Bool) (g : Guard) (before : List Guard) → Earlier g before ≡ true → list_all test before ≡ true → list_all test (guards scene (guard_path g)) ≡ true
    earlier test g before h all = all_from test (guards scene (guard_path g)) (λ x i.
        let found = any_at (same_guard x) before (all_at (λ (h : Guard). list_any (same_guard h) before) (guards scene (guard_path g)) h x i) in
        let same : x ≡ found.0 = guard_is x found.0 found.2 in
        rw same (all_at test before all found.0 found.1))

    presence_from : (before gs : List Guard) → list_all one before ≡ true → list_all other before ≡ true → are_grounded scene before gs ≡ true → list_all one gs ≡ list_all other gs
    presence_from before [] p q h = refl
    presence_from before (g ∷ gs) p q h =
        let here = left_of (Earlier g before && is_guard scene g) (are_grounded scene (g ∷ before) gs) h in
        let early = left_of (Earlier g before) (is_guard scene g) here in
        let same = agree g (right_of (Earlier g before) (is_guard scene g) here) (earlier one g before early p) (earlier other g before early q) in
        by (one g) (other g) refl refl same
        (λ a b. presence_from (g ∷ before) gs (both (one g) (list_all one before) a p) (both (other g) (list_all other before) b q) (right_of (Earlier g before && is_guard scene g) (are_grounded scene (g ∷ before) gs) h))
      where
        by : (a b : Bool) → one g ≡ a → other g ≡ b → a ≡ b → (one g ≡ true → other g ≡ true → list_all one gs ≡ list_all other gs) → (a && list_all one gs) ≡ (b && list_all other gs)
        by true true e f s rest = rest e f
        by false false e f s rest = refl
        by true false e f s rest = absurd (true≢false s)
        by false true e f s rest = absurd (true≢false (sym s))

    pub presence_law : (gs : List Guard) → are_grounded scene [] gs ≡ true → list_all one gs ≡ list_all other gs
    presence_law gs h = presence_from [] gs refl refl h

-- ---- each condition once

module _ (test : Guard → Bool) where
  once_from : (before gs : List Guard) → list_all test before ≡ true → list_all test (once_after before gs) ≡ list_all test gs
  once_from before [] p = refl
  once_from before (g ∷ gs) p = two_ways (list_any (same_guard g) before)
      (λ e. let found = any_at (same_guard g) before e in
      let there : test g ≡ true = rw (guard_is g found.0 found.2) (all_at test before p found.0 found.1) in
      rw (e, there) (once_from before gs p))
      (λ e. rw e (by (test g) refl (λ h. once_from (g ∷ before) gs (both (test g) (list_all test before) h p))))
    where
      by : (b : Bool) → test g ≡ b → (test g ≡ true → list_all test (once_after (g ∷ before) gs) ≡ list_all test gs) → (b && list_all test (once_after (g ∷ before) gs)) ≡ (b && list_all test gs)
      by true e f = f e
      by false e f = refl

  pub once_same : (gs : List Guard) → list_all test (once gs) ≡ list_all test gs
  once_same gs = once_from [] gs refl
