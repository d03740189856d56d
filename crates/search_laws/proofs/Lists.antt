-- Lists to which something is put at the end, and fronts of lists.
use Rattle.std.proofs.Common.{◌≡◌, refl, ap, ◌∙◌, ℕ, suc, ◌+◌, ◌-◌, ◌<◌, List, [], ◌∷◌, ◌++◌, length, get_or, take, arith, length-append}
use Rattle.std.proofs.Math.Seq.{get_or-append_seam, take-append_seam}
use Rattle.std.proofs.lemmas.List.{length-take-le, get_or-take}

module _ {A : Type 0} where
  pub length_push : (xs : List A) (x : A) → length (xs ++ x ∷ []) ≡ length xs + 1
  length_push xs x = length-append xs (x ∷ [])

  pub last_push : (xs : List A) (x d : A) → get_or (xs ++ x ∷ []) (length (xs ++ x ∷ []) - 1) d ≡ x
  last_push xs x d = ap (λ k. get_or (xs ++ x ∷ []) k d) {x = length (xs ++ x ∷ []) - 1} {y = length xs} (omega (arith, length_push xs x)) ∙ get_or-append_seam xs x [] d

  pub front_push : (xs : List A) (x : A) → take (length (xs ++ x ∷ []) - 1) (xs ++ x ∷ []) ≡ xs
  front_push xs x = ap (λ k. take k (xs ++ x ∷ [])) {x = length (xs ++ x ∷ []) - 1} {y = length xs} (omega (arith, length_push xs x)) ∙ take-append_seam xs (x ∷ [])

  -- a list that isn't empty is its prefix with its last
  pub front_last : (xs : List A) (d : A) → 0 < length xs → take (length xs - 1) xs ++ get_or xs (length xs - 1) d ∷ [] ≡ xs
  front_last [] d h = absurd (omega arith)
  front_last (x ∷ []) d h = refl
  front_last (x ∷ y ∷ ys) d h =
      ap (λ k. take k (x ∷ y ∷ ys) ++ get_or (x ∷ y ∷ ys) k d ∷ []) {x = length (x ∷ y ∷ ys) - 1} {y = suc (length (y ∷ ys) - 1)} (omega arith)
      ∙ ap (λ l. x ∷ l) (front_last (y ∷ ys) d (omega arith))

  pub length_front : (xs : List A) → length (take (length xs - 1) xs) ≡ length xs - 1
  length_front xs = length-take-le (length xs - 1) xs (omega arith)

  -- the prefix up to an element, with it, ends at it
  pub last_front : (xs : List A) (m : ℕ) (d : A) → m < length xs → get_or (take (m + 1) xs) (length (take (m + 1) xs) - 1) d ≡ get_or xs m d
  last_front xs m d h =
      ap (λ k. get_or (take (m + 1) xs) k d) {x = length (take (m + 1) xs) - 1} {y = m} (omega (arith, length-take-le (m + 1) xs (omega arith)))
      ∙ get_or-take (m + 1) xs m d (omega arith)
