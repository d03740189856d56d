-- Lines that leave a box unknown, one more at a time.
use Rattle.std.proofs.Common.{◌≡◌, refl, ap, ◌∙◌, ℕ, zero, suc, ◌+◌, List, [], ◌∷◌, ◌++◌, length, arith, append_assoc}
use Rattle.search_laws.specs.record_trees.declared.record.Line.{Line}
use Rattle.search_laws.specs.record_trees.declared.record.Line.TheVariants as L
use Rattle.search_laws.specs.Answers.{unknown_lines}

unknown_lines-push : (n : ℕ) → unknown_lines n ++ L.Unknown ∷ [] ≡ unknown_lines (suc n)
unknown_lines-push zero = refl
unknown_lines-push (suc n) = ap (λ (ls : List Line). L.Unknown ∷ ls) (unknown_lines-push n)

pub length_unknown : (n : ℕ) → length (unknown_lines n) ≡ n
length_unknown zero = refl
length_unknown (suc n) = ap suc (length_unknown n)

pub unknown_more : (lines : List Line) (n : ℕ) → lines ++ unknown_lines n ++ L.Unknown ∷ [] ≡ lines ++ unknown_lines (n + 1)
unknown_more lines n = append_assoc lines (unknown_lines n) (L.Unknown ∷ [])
    ∙ ap (λ (ls : List Line). lines ++ ls) (unknown_lines-push n ∙ ap unknown_lines {x = suc n} {y = n + 1} (omega arith))
