-- Lines of types that inherit from one another.
use Rattle.std.proofs.Common.{◌≡◌, ◌≢◌, ◌∙◌, refl, sym, ap, subst, ℕ, zero, suc, ◌+◌, ◌<◌, ◌≤◌, ◌⊎◌, inl, inr, ◌||◌, true, false, List, ◌∷◌, Option, Some, None, arith, nat_eq}
use Rattle.std.proofs.lemmas.Bool.Decides.{eqb_tells}
use Rattle.type_heads.specs.Table.{TypeHead, base, line_within}
use Rattle.type_heads.specs.Members.{has}
use Rattle.type_heads.proofs.LineSteps.{line_none}
use Rattle.type_members.specs.Ancestry.{HasEnd}

pub end_more : (heads : List TypeHead) (t u d : ℕ) → base heads u ≡ Some t → HasEnd heads (Some t) d → HasEnd heads (Some u) (d + 1)
end_more heads t u d is end =
    let e : suc d ≡ d + 1 = omega arith in
    let on : HasEnd heads (base heads u) d = subst (λ o. HasEnd heads o d) (sym is) end in
    subst (HasEnd heads (Some u)) e on

-- a type that inherits from none
pub end_one : (heads : List TypeHead) (t : ℕ) → base heads t ≡ None → HasEnd heads (Some t) 1
end_one heads t is = subst (λ o. HasEnd heads o 0) (sym is) tt

pub line_stable : (heads : List TypeHead) (d n : ℕ) (o : Option ℕ) → HasEnd heads o d → d ≤ n → line_within n heads o ≡ line_within (suc n) heads o
line_stable heads d n None end le = line_none n heads
line_stable heads zero n (Some t) end le = absurd end
line_stable heads (suc d) zero (Some t) end le = absurd (omega (arith, le))
line_stable heads (suc d) (suc n) (Some t) end le = ap (λ ts. t ∷ ts) (line_stable heads d n (base heads t) end (omega (arith, le)))

-- a line has one length
pub same_depth : (heads : List TypeHead) (d e : ℕ) (o : Option ℕ) → HasEnd heads o d → HasEnd heads o e → d ≡ e
same_depth heads zero zero None h k = refl
same_depth heads zero (suc e) None h k = absurd k
same_depth heads (suc d) e None h k = absurd h
same_depth heads zero e (Some t) h k = absurd h
same_depth heads (suc d) zero (Some t) h k = absurd k
same_depth heads (suc d) (suc e) (Some t) h k = ap suc (same_depth heads d e (base heads t) h k)

-- a longer line is that of another type
pub apart : (heads : List TypeHead) (x t e d : ℕ) → HasEnd heads (Some x) e → HasEnd heads (Some t) d → d < e → nat_eq x t ≡ false
apart heads x t e d h k less = by (eqb_tells x t)
  where
    by : ((nat_eq x t ≡ true) × (x ≡ t)) ⊎ ((nat_eq x t ≡ false) × (x ≢ t)) → nat_eq x t ≡ false
    by (inl (is, same)) =
        let one : e ≡ d = same_depth heads e d (Some t) (subst (λ y. HasEnd heads (Some y) e) same h) k in
        absurd (omega (arith, one, less))
    by (inr (is, other)) = is

-- a type with a longer line isn't on the line
pub off_line : (heads : List TypeHead) (n d x e : ℕ) (o : Option ℕ) → HasEnd heads o d → HasEnd heads (Some x) e → d < e → has x (line_within n heads o) ≡ false
off_line heads zero d x e o end deep less = refl
off_line heads (suc n) d x e None end deep less = refl
off_line heads (suc n) zero x e (Some t) end deep less = absurd end
off_line heads (suc n) (suc d) x e (Some t) end deep less =
    ap (λ b. b || has x (line_within n heads (base heads t))) (apart heads x t e (suc d) deep end less)
    ∙ off_line heads n d x e (base heads t) end deep (omega (arith, less))
