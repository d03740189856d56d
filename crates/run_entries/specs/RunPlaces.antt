-- The place of each path in a list of a run.
use Rattle.std.specs.Prelude.{◌≡◌, ℕ, List, Option}
use Rattle.indexmap.specs.IndexMap.{get_by}
use Rattle.osc_base.specs.declared.path.Path.{Path}
use Rattle.osc_base.specs.Paths.{same_path}
use Rattle.composition.specs.path_index.Places.{first_place}
use Rattle.run_entries.specs.declared.run_index.RunIndex.{RunIndex}

-- the place that an index has for a path
abbrev pub place_at : RunIndex → Path → Option ℕ
place_at index path = get_by (λ key. same_path path key.now) index.places

-- an index has the first place of each path of the things of a list
abbrev pub RunPlaces : {T : Type 0} → RunIndex → (T → Path) → List T → Type 0
RunPlaces index path_of things = (path : Path) → place_at index path ≡ first_place (λ x. same_path (path_of x) path) 0 things
