-- The path of the `do` of the named scenario.
use Rattle.std.proofs.Common.{◌≡◌, refl, List, [], ◌∷◌, Bool, true, false, ◌&&◌, codes}
use Rattle.std.specs.Prelude.{bytes_eq}
use Rattle.osc_base.specs.declared.path.Step.{Step}
use Rattle.osc_base.specs.declared.path.Step.TheVariants.{Name, Index, Member}
use Rattle.osc_base.specs.Paths.{same_steps}
use Rattle.run_clauses.specs.Listing.{is_do}

pub do_is : (steps : List Step) → is_do steps ≡ same_steps steps (Name (codes "do") ∷ [])
do_is [] = refl
do_is (Name name ∷ []) = by (bytes_eq name (codes "do"))
  where
    by : (b : Bool) → b ≡ (b && true)
    by true = refl
    by false = refl
do_is (Index number ∷ []) = refl
do_is (Member number ∷ []) = refl
do_is (Name name ∷ next ∷ later) = by (bytes_eq name (codes "do"))
  where
    by : (b : Bool) → false ≡ (b && false)
    by true = refl
    by false = refl
do_is (Index number ∷ next ∷ later) = refl
do_is (Member number ∷ next ∷ later) = refl
