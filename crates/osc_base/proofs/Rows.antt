-- Worked path texts, by computation.
use Rattle.std.proofs.Common.{◌≡◌, refl, [], ◌∷◌, codes}
use Rattle.std.specs.Fmt.{digits}
use Rattle.osc_base.specs.declared.path.Step.TheVariants.{Name, Index, Member}
use Rattle.osc_base.specs.Path.{path_text}

root : path_text [] ≡ codes "."
root = refl

field : path_text (Name (codes "x") ∷ Name (codes "n") ∷ []) ≡ codes "x.n"
field = refl

element : path_text (Name (codes "v") ∷ Index 0 ∷ []) ≡ codes "v[0]"
unfolding digits
element = refl

phase : path_text (Name (codes "do") ∷ Member 0 ∷ Member 12 ∷ Name (codes "x") ∷ []) ≡ codes "do[0][12].x"
unfolding digits
phase = refl
