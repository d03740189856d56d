-- A type and those that it inherits from, one by one.
use Rattle.std.proofs.Common.{◌≡◌, ◌∙◌, refl, sym, ap, ap₂, ℕ, zero, suc, ◌+◌, ◌-◌, ◌<◌, ◌≤◌, arith, List, [], ◌∷◌, ◌++◌, Option, Some, None, append-nil, append_assoc, length}
use Rattle.expr_nodes.specs.type_heads.Table.{TypeHead, base, bases, line_within}

module _ (heads : List TypeHead) where
  pub line_init : (of steps : ℕ) (at : Option ℕ) (none line : List ℕ) → none ≡ [] → line ≡ none ++ of ∷ [] → steps ≡ length heads → at ≡ base heads of → line ++ line_within steps heads at ≡ of ∷ bases heads of
  line_init of steps at none line empty one count is =
      ap₂ (λ xs n. xs ++ line_within n heads at) (one ∙ ap (λ xs. xs ++ of ∷ []) empty) count ∙ ap (λ o. of ∷ line_within (length heads) heads o) is

  pub line_more : (steps : ℕ) (at next : Option ℕ) (t : ℕ) (old new all : List ℕ) → 0 < steps → at ≡ Some t → next ≡ base heads t → new ≡ old ++ t ∷ []
      → old ++ line_within steps heads at ≡ all → new ++ line_within (steps - 1) heads next ≡ all
  line_more zero at next t old new all some is then one before = absurd (omega (arith, some))
  line_more (suc n) at next t old new all some is then one before =
      let less : suc n - 1 ≡ n = omega arith in
      ap₂ (λ xs k. xs ++ line_within k heads next) one less ∙ append_assoc old (t ∷ []) (line_within n heads next)
      ∙ ap (λ o. old ++ t ∷ line_within n heads o) then ∙ ap (λ o. old ++ line_within (suc n) heads o) (sym is) ∙ before

  bare : (steps : ℕ) → line_within steps heads None ≡ []
  bare zero = refl
  bare (suc n) = refl

  pub line_none : (steps : ℕ) (at : Option ℕ) (old all : List ℕ) → at ≡ None → old ++ line_within steps heads at ≡ all → old ≡ all
  line_none steps at old all is before = sym (append-nil old) ∙ ap (λ xs. old ++ xs) (sym (ap (line_within steps heads) is ∙ bare steps)) ∙ before

  pub line_end : (steps : ℕ) (at : Option ℕ) (old all : List ℕ) → steps ≤ 0 → old ++ line_within steps heads at ≡ all → old ≡ all
  line_end zero at old all h before = sym (append-nil old) ∙ before
  line_end (suc n) at old all h before = absurd (omega (arith, h))
