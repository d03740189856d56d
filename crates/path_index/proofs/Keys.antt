-- An index as a function from paths to places.
use Rattle.std.proofs.Common.{◌≡◌, ◌∙◌, refl, sym, ap, ℕ, Bool, true, false, cond, Option, Some, None, true≢false}
use Rattle.std.specs.Option.{is_some, option_or}
use Rattle.indexmap.specs.IndexMap.{IndexMap, get_by}
use Rattle.osc_base.specs.declared.path.Path.{Path}
use Rattle.osc_base.specs.contracts.path.PathPartialEq.TheImpl as paths
use Rattle.osc_base.specs.Paths.{same_path}
use Rattle.osc_base.proofs.PathEquality.{path_eq, path_is}

-- a map finds by the program's `==` what it finds by the test of paths
pub found_by : {X S : Type 0} (m : IndexMap Path X S) (path : Path) → get_by (paths.eq-value.it path) m ≡ get_by (same_path path) m
found_by m path = ap (λ (t : Path → Bool). get_by t m) (λ i other. path_eq path other i)

pub or_nothing : (o : Option ℕ) → o ≡ option_or o None
or_nothing None = refl
or_nothing (Some x) = refl

kept : (o p : Option ℕ) → is_some o ≡ true → o ≡ option_or o p
kept None p h = absurd (true≢false (sym h))
kept (Some x) p h = refl

fresh_is : (o p : Option ℕ) → is_some o ≡ false → p ≡ option_or o p
fresh_is None p h = refl
fresh_is (Some x) p h = absurd (true≢false h)

-- a path that is there keeps its place
pub present : (f : Path → Option ℕ) (path : Path) (place : ℕ) → is_some (f path) ≡ true → (other : Path) → f other ≡ option_or (f other) (cond (same_path path other) (Some place) None)
present f path place there other = by (same_path path other) refl
  where
    by : (b : Bool) → same_path path other ≡ b → f other ≡ option_or (f other) (cond b (Some place) None)
    by true e = kept (f other) (Some place) (ap (λ n. is_some (f n)) (sym (path_is path other e)) ∙ there)
    by false e = or_nothing (f other)

-- a new path gets one
pub placed : (f g : Path → Option ℕ) (path : Path) (place : ℕ) → is_some (f path) ≡ false → ((other : Path) → g other ≡ cond (same_path path other) (Some place) (f other)) →
    (other : Path) → g other ≡ option_or (f other) (cond (same_path path other) (Some place) None)
placed f g path place fresh is other = is other ∙ by (same_path path other) refl
  where
    by : (b : Bool) → same_path path other ≡ b → cond b (Some place) (f other) ≡ option_or (f other) (cond b (Some place) None)
    by true e = fresh_is (f other) (Some place) (ap (λ n. is_some (f n)) (sym (path_is path other e)) ∙ fresh)
    by false e = or_nothing (f other)
