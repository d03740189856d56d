-- The place of each path in a list.
use Rattle.std.specs.Prelude.{◌≡◌, ℕ, ◌+◌, Bool, cond, List, [], ◌∷◌, Option, Some, None}
use Rattle.indexmap.specs.IndexMap.{get_by}
use Rattle.osc_base.specs.declared.path.Path.{Path}
use Rattle.osc_base.specs.Paths.{same_path}
use Rattle.path_index.specs.declared.index.PathIndex.{PathIndex}

-- the place that an index has for a path
abbrev pub place_at : PathIndex → Path → Option ℕ
place_at index path = get_by (same_path path) index.places

-- the first place at which a test holds; the first item has the place n
abbrev pub first_place : {T : Type 0} → (T → Bool) → ℕ → List T → Option ℕ
first_place test n [] = None
first_place test n (x ∷ xs) = cond (test x) (Some n) (first_place test (n + 1) xs)

-- an index has the first place of each path, after a change, of the things of a list
abbrev pub Places : {T : Type 0} → PathIndex → (Path → Path) → (T → Path) → List T → Type 0
Places index change path_of things = (path : Path) → place_at index path ≡ first_place (λ x. same_path (change (path_of x)) path) 0 things
