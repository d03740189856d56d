-- The types that a type holds, as they are gathered.
use Rattle.std.proofs.Common.{◌≡◌, ◌∙◌, refl, ap, ℕ, zero, suc, ◌+◌, List, [], ◌∷◌, ◌++◌, flat_map, length, arith}
use Rattle.std.specs.Prelude.{slice_index_or}
use Rattle.type_members.specs.type_heads.Table.{TypeHead, bases}
use Rattle.type_members.specs.type_heads.Types.{TypeBody}
use Rattle.type_members.specs.type_heads.Members.{subtypes}
use Rattle.type_members.specs.type_heads.Cycles.{fresh, reached}
use Rattle.type_members.specs.type_heads.HeadingFaults.{family}
use Rattle.type_members.specs.Listed.{AreSubtypes}

next_same : (f g : ℕ → List ℕ) → ((t : ℕ) → f t ≡ g t) → (xs : List ℕ) → flat_map f xs ≡ flat_map g xs
next_same f g same [] = refl
next_same f g same (x ∷ xs) = ap (λ ys. ys ++ flat_map f xs) (same x) ∙ ap (λ ys. g x ++ ys) (next_same f g same xs)

-- the same steps reach the same
reached_same : (f g : ℕ → List ℕ) → ((t : ℕ) → f t ≡ g t) → (n : ℕ) (found new : List ℕ) → reached n f found new ≡ reached n g found new
reached_same f g same zero found new = refl
reached_same f g same (suc n) found [] = refl
reached_same f g same (suc n) found (x ∷ xs) =
    ap (λ ys. reached n f (found ++ x ∷ xs) (fresh (found ++ x ∷ xs) ys)) (next_same f g same (x ∷ xs))
    ∙ reached_same f g same n (found ++ x ∷ xs) (fresh (found ++ x ∷ xs) (flat_map g (x ∷ xs)))

pub family_is : (heads : List TypeHead) (bodies : List TypeBody) (lists : List (List ℕ)) (t : ℕ) → AreSubtypes heads bodies lists →
    reached (length heads + 1) (λ u. slice_index_or lists u []) [] (fresh [] (t ∷ bases heads t)) ≡ family heads bodies t
family_is heads bodies lists t same =
    let e : length heads + 1 ≡ suc (length heads) = omega arith in
    ap (λ n. reached n (λ u. slice_index_or lists u []) [] (fresh [] (t ∷ bases heads t))) e
    ∙ reached_same (λ u. slice_index_or lists u []) (subtypes heads bodies) same (suc (length heads)) [] (fresh [] (t ∷ bases heads t))
