-- What items give, one after the other: what a part of the items gives is a part of what all give.
use Rattle.std.proofs.Common.{◌≡◌, ◌∙◌, refl, sym, ap, ℕ, zero, suc, ◌+◌, List, [], ◌∷◌, ◌++◌, length, take, drop, length-append}
use Rattle.std.proofs.lemmas.List.{append_assoc}
use Rattle.std.proofs.Math.Seq.{drop-append-add, take-append-add}

none_dropped : {X : Type 0} (n : ℕ) (xs : List X) → xs ≡ [] → drop n xs ≡ []
none_dropped zero xs e = e
none_dropped (suc n) [] e = refl
none_dropped (suc n) (x ∷ xs) e = let never : x ∷ xs ≡ [] = e in cc

module _ {X Y : Type 0} (each : X → List Y) (all : List X → List Y) (none : all [] ≡ []) (split : (x : X) (xs : List X) → all (x ∷ xs) ≡ each x ++ all xs) where
  pub joined : (xs ys : List X) → all (xs ++ ys) ≡ all xs ++ all ys
  joined [] ys = ap (λ zs. zs ++ all ys) (sym none)
  joined (x ∷ xs) ys =
      split x (xs ++ ys)
      ∙ ap (λ zs. each x ++ zs) (joined xs ys)
      ∙ sym (append_assoc (each x) (all xs) (all ys))
      ∙ ap (λ zs. zs ++ all ys) (sym (split x xs))

  -- the first items give what comes first
  pub first_given : (k : ℕ) (xs : List X) → take (length (all (take k xs))) (all xs) ≡ all (take k xs)
  first_given zero xs = ap (λ zs. take (length zs) (all xs)) none ∙ sym none
  first_given (suc k) [] = ap (λ zs. take (length zs) zs) none ∙ sym none
  first_given (suc k) (x ∷ xs) =
      ap (λ zs. take (length zs) (all (x ∷ xs))) (split x (take k xs))
      ∙ ap (λ n. take n (all (x ∷ xs))) (length-append (each x) (all (take k xs)))
      ∙ ap (take (length (each x) + length (all (take k xs)))) (split x xs)
      ∙ take-append-add (each x) (all xs) (length (all (take k xs)))
      ∙ ap (λ zs. each x ++ zs) (first_given k xs)
      ∙ sym (split x (take k xs))

  rest_given : (from to : ℕ) (xs : List X) → drop (length (all (take from xs))) (all (take to xs)) ≡ all (drop from (take to xs))
  rest_given zero to xs = ap (λ zs. drop (length zs) (all (take to xs))) none
  rest_given (suc from) zero xs = none_dropped (length (all (take (suc from) xs))) (all []) none ∙ sym none
  rest_given (suc from) (suc to) [] = none_dropped (length (all [])) (all []) none ∙ sym none
  rest_given (suc from) (suc to) (x ∷ xs) =
      ap (λ zs. drop (length zs) (all (x ∷ take to xs))) (split x (take from xs))
      ∙ ap (λ n. drop n (all (x ∷ take to xs))) (length-append (each x) (all (take from xs)))
      ∙ ap (drop (length (each x) + length (all (take from xs)))) (split x (take to xs))
      ∙ drop-append-add (each x) (all (take to xs)) (length (all (take from xs)))
      ∙ rest_given from to xs

  -- a part of the items gives what stands from where it begins to where it ends
  pub part_given : (from to : ℕ) (xs : List X) → drop (length (all (take from xs))) (take (length (all (take to xs))) (all xs)) ≡ all (drop from (take to xs))
  part_given from to xs = ap (drop (length (all (take from xs)))) (first_given to xs) ∙ rest_given from to xs
