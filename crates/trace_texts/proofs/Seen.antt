-- An index of the paths of traces.
use Rattle.std.proofs.Common.{◌≡◌, ◌∙◌, refl, sym, ap, ap₂, ℕ, List, [], ◌∷◌, ◌++◌, Bool, true, false, ◌||◌, cond, Option, Some, None}
use Rattle.std.specs.List.{list_any}
use Rattle.std.specs.Option.{is_some}
use Rattle.indexmap.specs.IndexMap.{IndexMap, get_by}
use Rattle.osc_base.specs.declared.path.Path.{Path}
use Rattle.osc_base.specs.contracts.path.PathPartialEq.TheImpl as paths
use Rattle.osc_base.specs.Paths.{same_path}
use Rattle.osc_base.proofs.PathEquality.{path_eq}
use Rattle.run_texts.specs.composition.declared.run.Trace.{Trace}
use Rattle.trace_texts.specs.TraceShape.{has_path}

-- a map finds by the program's `==` what it finds by the test of paths
pub found_by : {X S : Type 0} (m : IndexMap Path X S) (path : Path) → get_by (paths.eq-value.it path) m ≡ get_by (same_path path) m
found_by m path = ap (λ (t : Path → Bool). get_by t m) (λ i other. path_eq path other i)

pub any_more : {A : Type 0} (test : A → Bool) (xs : List A) (x : A) → list_any test (xs ++ x ∷ []) ≡ list_any test xs || test x
any_more test [] x = by (test x)
  where
    by : (b : Bool) → b || false ≡ b
    by true = refl
    by false = refl
any_more test (y ∷ ys) x = ap (λ b. test y || b) (any_more test ys x) ∙ by (test y) (list_any test ys) (test x)
  where
    by : (a b c : Bool) → a || (b || c) ≡ (a || b) || c
    by true b c = refl
    by false b c = refl

-- with one trace more, and its path in the index, the index has the paths of all
pub seen_more : (old new : Path → Option ℕ) (before after : List Trace) (t : Trace) (key : Path) (place : ℕ) → key ≡ t.path → after ≡ before ++ t ∷ []
    → ((p : Path) → is_some (old p) ≡ has_path before p) → ((p : Path) → new p ≡ cond (same_path key p) (Some place) (old p))
    → (p : Path) → is_some (new p) ≡ has_path after p
seen_more old new before after t key place named more seen is p =
    ap is_some (is p) ∙ by (same_path key p) (old p)
    ∙ ap₂ (λ a b. a || b) (seen p) (ap (λ k. same_path k p) named)
    ∙ sym (ap (λ ts. has_path ts p) more ∙ any_more (λ (x : Trace). same_path x.path p) before t)
  where
    by : (b : Bool) (o : Option ℕ) → is_some (cond b (Some place) o) ≡ is_some o || b
    by true None = refl
    by true (Some x) = refl
    by false None = refl
    by false (Some x) = refl
