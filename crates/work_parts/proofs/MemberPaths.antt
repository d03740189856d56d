-- What is made of whole numbers, one by one.
use Rattle.std.proofs.Common.{◌≡◌, ◌∙◌, sym, ap, ℕ, suc, ◌+◌, ◌-◌, ◌<◌, List, [], ◌∷◌, ◌++◌, map, arith, append_assoc}
use Rattle.std.specs.List.{range_with_len}

range_more : (a n : ℕ) → a < n → range_with_len a (n - a) ≡ a ∷ range_with_len (a + 1) (n - (a + 1))
range_more a n lt = let e : n - a ≡ suc (n - (a + 1)) = omega (arith, lt) in ap (range_with_len a) e

-- a number further
pub number_more : {X : Type 0} (f : ℕ → X) (a n : ℕ) (old new all : List X) → a < n → new ≡ old ++ f a ∷ [] → old ++ map f (range_with_len a (n - a)) ≡ all
    → new ++ map f (range_with_len (a + 1) (n - (a + 1))) ≡ all
number_more f a n old new all lt is before =
    ap (λ xs. xs ++ map f (range_with_len (a + 1) (n - (a + 1)))) is ∙ append_assoc old (f a ∷ []) (map f (range_with_len (a + 1) (n - (a + 1))))
    ∙ ap (λ ns. old ++ map f ns) (sym (range_more a n lt)) ∙ before
