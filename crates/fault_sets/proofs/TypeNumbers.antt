-- The numbers of types, one after the other.
use Rattle.std.proofs.Common.{◌≡◌, ◌∙◌, refl, sym, ap, ℕ, zero, suc, ◌+◌, ◌<◌, ◌≤◌, List, [], ◌∷◌, drop, length, arith}
use Rattle.type_heads.specs.Table.{numbers_from}

-- what is left begins with the next number
pub next_number : {X : Type 0} (xs : List X) (n m : ℕ) → n < length xs → numbers_from m (drop n xs) ≡ m ∷ numbers_from (m + 1) (drop (n + 1) xs)
next_number [] n m less = absurd (omega arith)
next_number (x ∷ xs) zero m less = refl
next_number (x ∷ xs) (suc n) m less =
    let l : n < length xs = omega arith in
    let e : suc n + 1 ≡ suc (n + 1) = omega arith in
    next_number xs n m l ∙ ap (λ k. m ∷ numbers_from (m + 1) (drop k (x ∷ xs))) (sym e)

-- nothing is left
pub no_number : {X : Type 0} (xs : List X) (n m : ℕ) → length xs ≤ n → numbers_from m (drop n xs) ≡ []
no_number [] zero m more = refl
no_number [] (suc n) m more = refl
no_number (x ∷ xs) zero m more = absurd (omega arith)
no_number (x ∷ xs) (suc n) m more = let l : length xs ≤ n = omega arith in no_number xs n m l
