-- An index of borrowed paths as a function from paths to places.
use Rattle.std.proofs.Common.{◌≡◌, ◌∙◌, refl, sym, ap, ℕ, Bool, true, false, cond, Option, Some, None, Bor}
use Rattle.std.specs.Option.{is_some, option_or}
use Rattle.indexmap.specs.IndexMap.{IndexMap, get_by}
use Rattle.osc_base.specs.declared.path.Path.{Path}
use Rattle.osc_base.specs.contracts.path.PathPartialEq.TheImpl as paths
use Rattle.osc_base.specs.Paths.{same_path}
use Rattle.osc_base.proofs.PathEquality.{path_eq, path_is}
use Rattle.composition.proofs.of_path_index.Keys.{or_nothing, placed}

-- a map finds by the program's `==` what it finds by the test of paths
pub found_by : {X S : Type 0} (m : IndexMap (Bor Path) X S) (path : Path) → get_by (λ key. paths.eq-value.it path key.now) m ≡ get_by (λ key. same_path path key.now) m
found_by m path = ap (λ (t : Path → Bool). get_by (λ key. t key.now) m) (λ i other. path_eq path other i)

-- a path that had no place gets one
pub noted_new : (f g : Path → Option ℕ) (path : Path) (place : ℕ) → None ≡ f path → ((other : Path) → g other ≡ cond (same_path path other) (Some place) (f other))
    → (other : Path) → g other ≡ option_or (f other) (cond (same_path path other) (Some place) None)
noted_new f g path place fresh is = placed f g path place (ap is_some (sym fresh)) is

-- a path that had a place gets it back
pub noted_again : (f g h : Path → Option ℕ) (path : Path) (place first : ℕ) → Some first ≡ f path → ((other : Path) → g other ≡ cond (same_path path other) (Some place) (f other))
    → ((other : Path) → h other ≡ cond (same_path path other) (Some first) (g other))
    → (other : Path) → h other ≡ option_or (f other) (cond (same_path path other) (Some place) None)
noted_again f g h path place first there once again other =
    again other ∙ ap (λ o. cond (same_path path other) (Some first) o) (once other) ∙ by (same_path path other) refl
  where
    by : (b : Bool) → same_path path other ≡ b → cond b (Some first) (cond b (Some place) (f other)) ≡ option_or (f other) (cond b (Some place) None)
    by true e = ap (λ o. option_or o (Some place)) (there ∙ ap f (path_is path other e))
    by false e = or_nothing (f other)
