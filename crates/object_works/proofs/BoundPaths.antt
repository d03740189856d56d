-- Whether a path is one of some things, by the place of the first.
use Rattle.std.proofs.Common.{◌≡◌, ◌∙◌, refl, ap, ℕ, ◌+◌, ◌||◌, Bool, true, false, cond, List, [], ◌∷◌, Option, Some, is_some, map}
use Rattle.osc_base.specs.declared.path.Path.{Path}
use Rattle.osc_base.specs.Paths.{same_path}
use Rattle.scene_expansion.specs.composition.declared.part.Binding.{Binding}
use Rattle.scene_expansion.specs.composition.Homes.{is_bound}
use Rattle.scene_expansion.specs.composition.SeenParts.{seen_binding}
use Rattle.scene_expansion.specs.path_index.Places.{first_place}

first_bound : (path : Path) (n : ℕ) (bs : List Binding) → is_some (first_place (λ (b : Binding). same_path b.at path) n bs) ≡ is_bound (map seen_binding bs) path
first_bound path n [] = refl
first_bound path n (b ∷ bs) = by (same_path b.at path) (first_bound path (n + 1) bs)
  where
    by : (t : Bool) → is_some (first_place (λ (d : Binding). same_path d.at path) (n + 1) bs) ≡ is_bound (map seen_binding bs) path
        → is_some (cond t (Some n) (first_place (λ (d : Binding). same_path d.at path) (n + 1) bs)) ≡ (t || is_bound (map seen_binding bs) path)
    by true h = refl
    by false h = h

-- a parameter that has a place is bound
pub bound_at : (path : Path) (bs : List Binding) (place : Option ℕ) → place ≡ first_place (λ (b : Binding). same_path b.at path) 0 bs → is_some place ≡ is_bound (map seen_binding bs) path
bound_at path bs place is = ap is_some is ∙ first_bound path 0 bs
