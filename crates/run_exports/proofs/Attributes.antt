-- What is read of the attributes of an XML line.
use Rattle.std.proofs.Common.{◌≡◌, ◌∙◌, refl, sym, ap, true≢false, ℕ, Bool, true, false, not, cond, ◌&&◌, List, [], ◌∷◌, ◌++◌, length, drop}
use Rattle.std.specs.Prelude.{nat_eq}
use Rattle.run_exports.specs.Reading.{begins, behind_text}
use Rattle.run_exports.proofs.Cuts.{free}

-- a text that begins with a space doesn't begin within one that has none
pub behind_spaceless : (mark xs ys : List ℕ) → free 32 xs ≡ true → behind_text (32 ∷ mark) (xs ++ ys) ≡ behind_text (32 ∷ mark) ys
behind_spaceless mark [] ys h = refl
behind_spaceless mark (x ∷ xs) ys h = by (nat_eq x 32) h (behind_spaceless mark xs ys)
  where
    by : (b : Bool) → not b && free 32 xs ≡ true → (free 32 xs ≡ true → behind_text (32 ∷ mark) (xs ++ ys) ≡ behind_text (32 ∷ mark) ys)
        → cond (b && begins mark (xs ++ ys)) (drop (length (32 ∷ mark)) (x ∷ (xs ++ ys))) (behind_text (32 ∷ mark) (xs ++ ys)) ≡ behind_text (32 ∷ mark) ys
    by true g rest = absurd (true≢false (sym g))
    by false g rest = rest g
