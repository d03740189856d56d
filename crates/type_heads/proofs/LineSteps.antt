-- A step along the types that a type inherits from.
use Rattle.std.proofs.Common.{◌≡◌, ◌∙◌, refl, sym, ap, ℕ, zero, suc, ◌-◌, ◌<◌, ◌||◌, Bool, false, List, [], ◌∷◌, ◌++◌, Option, Some, None, arith, nat_eq}
use Rattle.std.specs.List.{list_any}
use Rattle.std.proofs.lemmas.List.{append_assoc}
use Rattle.type_heads.specs.Table.{TypeHead, base, line_within}

pub line_more : (steps : ℕ) (heads : List TypeHead) (t : ℕ) → 0 < steps → line_within steps heads (Some t) ≡ t ∷ line_within (steps - 1) heads (base heads t)
line_more zero heads t above = absurd (omega arith)
line_more (suc steps) heads t above = let e : steps ≡ suc steps - 1 = omega arith in ap (λ n. t ∷ line_within n heads (base heads t)) e

pub line_none : (steps : ℕ) (heads : List TypeHead) → line_within steps heads None ≡ []
line_none zero heads = refl
line_none (suc steps) heads = refl

pub line_step : (line new whole : List ℕ) (steps : ℕ) (heads : List TypeHead) (at next : Option ℕ) (t : ℕ) → line ++ line_within steps heads at ≡ whole → at ≡ Some t →
    new ≡ line ++ t ∷ [] → next ≡ base heads t → 0 < steps → new ++ line_within (steps - 1) heads next ≡ whole
line_step line new whole steps heads at next t is some more on above =
    ap (λ xs. xs ++ line_within (steps - 1) heads next) more ∙ append_assoc line (t ∷ []) (line_within (steps - 1) heads next)
    ∙ ap (λ o. line ++ t ∷ line_within (steps - 1) heads o) on ∙ ap (λ xs. line ++ xs) (sym (ap (line_within steps heads) some ∙ line_more steps heads t above)) ∙ is

pub any_step : (b : ℕ) (whole : Bool) (steps : ℕ) (heads : List TypeHead) (at next : Option ℕ) (t : ℕ) → whole ≡ list_any (nat_eq b) (line_within steps heads at) → at ≡ Some t →
    nat_eq b t ≡ false → next ≡ base heads t → 0 < steps → whole ≡ list_any (nat_eq b) (line_within (steps - 1) heads next)
any_step b whole steps heads at next t is some other on above =
    is ∙ ap (list_any (nat_eq b)) (ap (line_within steps heads) some ∙ line_more steps heads t above)
    ∙ ap (λ c. c || list_any (nat_eq b) (line_within (steps - 1) heads (base heads t))) other
    ∙ ap (λ o. list_any (nat_eq b) (line_within (steps - 1) heads o)) (sym on)
