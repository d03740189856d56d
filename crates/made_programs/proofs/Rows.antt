-- Texts that loops make, one number after another.
use Rattle.std.proofs.Common.{◌≡◌, ℕ, zero, suc, ◌+◌, sym, ap, ◌∙◌, List, ◌++◌, append_assoc, append-nil, arith}
use Rattle.std.specs.Prelude.{flat_map}
use Rattle.std.specs.List.{range_with_len}
use Rattle.made_programs.specs.MadeText.{for_each}

-- the lines of one number more
more : (lines : ℕ → List ℕ) (first count next : ℕ) → first + count ≡ next
    → flat_map lines (range_with_len first (suc count)) ≡ flat_map lines (range_with_len first count) ++ lines next
more lines first zero next is = append-nil (lines first) ∙ ap lines (omega (arith, is))
more lines first (suc count) next is =
    ap (λ text. lines first ++ text) (more lines (first + 1) count next (omega (arith, is)))
    ∙ sym (append_assoc (lines first) (flat_map lines (range_with_len (first + 1) count)) (lines next))

pub one_more : (lines : ℕ → List ℕ) (before now new : List ℕ) (count : ℕ) → now ≡ before ++ for_each count lines → new ≡ now ++ lines count
    → new ≡ before ++ for_each (count + 1) lines
one_more lines before now new count so_far added =
    let next : count + 1 ≡ suc count = omega arith in
    let grown : for_each (count + 1) lines ≡ for_each count lines ++ lines count =
    ap (λ n. for_each n lines) next ∙ more lines 0 count count (omega arith) in
    added ∙ ap (λ text. text ++ lines count) so_far ∙ append_assoc before (for_each count lines) (lines count) ∙ ap (λ text. before ++ text) (sym grown)
