-- Which path is that of the `do` of the named scenario.
use Rattle.std.proofs.Common.{◌≡◌, refl, Bool, true, false, ◌&&◌, List, [], ◌∷◌, codes}
use Rattle.std.specs.Prelude.{bytes_eq}
use Rattle.osc_base.specs.declared.path.Step.{Step}
use Rattle.osc_base.specs.declared.path.Step.TheVariants.{Name, Index, Member}
use Rattle.osc_base.specs.Paths.{same_step, same_steps}
use Rattle.scene_rules.specs.Sides.{is_only_do}

with_true : (b : Bool) → b ≡ b && true
with_true true = refl
with_true false = refl

with_false : (b : Bool) → false ≡ b && false
with_false true = refl
with_false false = refl

pub do_is : (steps : List Step) → is_only_do steps ≡ same_steps steps (Name (codes "do") ∷ [])
do_is [] = refl
do_is (Name name ∷ []) = with_true (bytes_eq name (codes "do"))
do_is (Index number ∷ []) = refl
do_is (Member number ∷ []) = refl
do_is (step ∷ next ∷ later) = with_false (same_step step (Name (codes "do")))
