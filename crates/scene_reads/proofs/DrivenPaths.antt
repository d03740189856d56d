-- Whether a vehicle stands at a path, by the place of the first.
use Rattle.std.proofs.Common.{◌≡◌, ◌∙◌, refl, ap, ℕ, ◌+◌, ◌||◌, Bool, true, false, cond, List, [], ◌∷◌, Option, Some, is_some, map}
use Rattle.std.specs.List.{list_any}
use Rattle.osc_base.specs.declared.path.Path.{Path}
use Rattle.osc_base.specs.Paths.{same_path}
use Rattle.osc_base.proofs.PathEquality.{path_flip}
use Rattle.composition.specs.path_index.Places.{first_place}
use Rattle.scene_reads.specs.Vehicles.{vehicle_path}
use Rattle.scene_reads.specs.declared.driven.Vehicle.{Vehicle}

first_driven : (path : Path) (n : ℕ) (vs : List Vehicle) → is_some (first_place (λ (v : Vehicle). same_path (vehicle_path v) path) n vs) ≡ list_any (same_path path) (map vehicle_path vs)
first_driven path n [] = refl
first_driven path n (v ∷ vs) =
    by (same_path (vehicle_path v) path) (first_driven path (n + 1) vs)
    ∙ ap (λ b. b || list_any (same_path path) (map vehicle_path vs)) (path_flip (vehicle_path v) path)
  where
    by : (t : Bool) → is_some (first_place (λ (w : Vehicle). same_path (vehicle_path w) path) (n + 1) vs) ≡ list_any (same_path path) (map vehicle_path vs)
        → is_some (cond t (Some n) (first_place (λ (w : Vehicle). same_path (vehicle_path w) path) (n + 1) vs)) ≡ (t || list_any (same_path path) (map vehicle_path vs))
    by true h = refl
    by false h = h

-- a vehicle that has a place
pub driven_at : (path : Path) (vs : List Vehicle) (paths : List Path) (place : Option ℕ) → map vehicle_path vs ≡ paths
    → place ≡ first_place (λ (v : Vehicle). same_path (vehicle_path v) path) 0 vs → is_some place ≡ list_any (same_path path) paths
driven_at path vs paths place listed is = ap is_some is ∙ first_driven path 0 vs ∙ ap (list_any (same_path path)) listed
