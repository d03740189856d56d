-- Forms of a scene that ask less than the scene, or more: of the hard constraints only some, and further rules.
use Rattle.std.specs.Prelude.{◌≡◌, ℕ, ◌+◌, ◌&&◌, ◌||◌, ◌++◌, Bool, true, not, cond, List, [], ◌∷◌, map, ℤ}
use Rattle.std.specs.List.{list_all}
use Rattle.box_eval.specs.Box.{IsPointOf}
use Rattle.box_eval.specs.declared.flat.Flat.{Flat}
use Rattle.box_eval.specs.Rules.{Meets, IsEmpty}
use Rattle.box_eval.specs.FlatRules.{FlatRule, Always, holds_at, flat_rule}
use Rattle.field_flatten.specs.composition.declared.run.Run.{Run}
use Rattle.field_flatten.specs.composition.Scenes.{Scene}
use Rattle.field_flatten.specs.composition.Items.{Item, items, item_holds, is_hard}
use Rattle.field_flatten.specs.Ends.{bounds}
use Rattle.field_flatten.specs.Points.{run_of, point_of}
use Rattle.field_flatten.specs.Rules.{layout, item_rule}
use Rattle.field_flatten.specs.Exactness.{meets_soft, is_framed}

-- ---- the rules

-- the rule of item n: a hard constraint that isn't kept asks nothing
abbrev pub kept_rule : Scene → (ℕ → Bool) → ℕ → Item → FlatRule
kept_rule scene keeps n i = cond (is_hard i && not (keeps n)) Always (item_rule scene (layout scene) i)

-- the rules of items, the first of which has number n
abbrev pub kept_from : Scene → (ℕ → Bool) → ℕ → List Item → List FlatRule
kept_from scene keeps n [] = []
kept_from scene keeps n (i ∷ is) = kept_rule scene keeps n i ∷ kept_from scene keeps (n + 1) is

-- every hard constraint is kept
abbrev pub all_kept : ℕ → Bool
all_kept n = true

-- a form with the scene's ends; with its rules, of the hard ones those that are kept; and with further rules behind them
pub record IsFormFor (scene : Scene) (keeps : ℕ → Bool) (more : List FlatRule) (flat : Flat) : Type 0 where
  pub same_ends : flat.bounds.pairs ≡ bounds scene
  pub same_rules : map flat_rule flat.rules ≡ kept_from scene keeps 0 (items scene) ++ more

-- ---- runs

-- of the hard constraints among items, the first of which has number n, each that is kept holds in a run
abbrev pub keeps_hold : Scene → (ℕ → Bool) → Run → ℕ → List Item → Bool
keeps_hold scene keeps run n [] = true
keeps_hold scene keeps run n (i ∷ is) = (not (is_hard i && keeps n) || item_holds scene run i) && keeps_hold scene keeps run (n + 1) is

-- An instance, if of the hard constraints only those that are kept are asked. The others still override defaults.
abbrev pub is_instance_for : Scene → (ℕ → Bool) → Run → Bool
is_instance_for scene keeps run = is_framed scene run && keeps_hold scene keeps run 0 (items scene)

-- further rules say this of runs, at each point of the box at which the rules hold that aren't of hard constraints
abbrev pub Say : Scene → List FlatRule → (Run → Bool) → Type 0
Say scene more is_so =
    (point : List ℤ) → IsPointOf (bounds scene) point → meets_soft scene point ≡ true → list_all (holds_at point) more ≡ is_so (run_of scene point)

-- The points of a form that meet all its rules are the instances of which something is so.
pub record IsExactFor (scene : Scene) (keeps : ℕ → Bool) (is_so : Run → Bool) (flat : Flat) : Type 0 where
  pub instance_of : (point : List ℤ) → IsPointOf flat.bounds.pairs point → Meets point flat.rules → is_instance_for scene keeps (run_of scene point) ≡ true
  pub so : (point : List ℤ) → IsPointOf flat.bounds.pairs point → Meets point flat.rules → is_so (run_of scene point) ≡ true
  pub inside : (run : Run) → is_instance_for scene keeps run ≡ true → IsPointOf flat.bounds.pairs (point_of scene run)
  pub met : (run : Run) → is_instance_for scene keeps run ≡ true → is_so run ≡ true → Meets (point_of scene run) flat.rules
  pub gives : (run : Run) → is_instance_for scene keeps run ≡ true → run_of scene (point_of scene run) ≡ run
  pub none : IsEmpty flat.rules flat.bounds.pairs → (run : Run) → is_instance_for scene keeps run ≡ true → is_so run ≡ true → ⊥
