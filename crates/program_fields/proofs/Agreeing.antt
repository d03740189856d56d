-- Lists of which one leads to the other, item by item.
use Rattle.std.proofs.Common.{◌≡◌, ◌∙◌, refl, sym, ap, ℕ, zero, suc, Bool, true, false, cond, List, [], ◌∷◌, Option, Some, None, map, take, drop, slice_index_or}
use Rattle.std.specs.Prelude.{find, option_and_then, slice_get}
use Rattle.std.proofs.lemmas.List.{drop-map, take-map}

abbrev tail_of : {X : Type 0} → List X → List X
tail_of [] = []
tail_of (x ∷ xs) = xs

module _ {S F : Type 0} (h : S → Option F) where
  head : (s : S) (ss : List S) (f : F) (fs : List F) → map h (s ∷ ss) ≡ map Some (f ∷ fs) → h s ≡ Some f
  head s ss f fs e = ap (λ xs. slice_index_or xs 0 None) e

  tail : (s : S) (ss : List S) (f : F) (fs : List F) → map h (s ∷ ss) ≡ map Some (f ∷ fs) → map h ss ≡ map Some fs
  tail s ss f fs e = ap tail_of e

  pub got : (ss : List S) (fs : List F) → map h ss ≡ map Some fs → (k : ℕ) → option_and_then h (slice_get ss k) ≡ slice_get fs k
  got [] [] e k = refl
  got [] (f ∷ fs) e k = let never : [] ≡ Some f ∷ map Some fs = e in cc
  got (s ∷ ss) [] e k = let never : h s ∷ map h ss ≡ [] = e in cc
  got (s ∷ ss) (f ∷ fs) e zero = head s ss f fs e
  got (s ∷ ss) (f ∷ fs) e (suc k) = got ss fs (tail s ss f fs e) k

  module _ (t : S → Bool) (u : F → Bool) (same : (s : S) (f : F) → h s ≡ Some f → t s ≡ u f) where
    step : (s : S) (f : F) (more : Option S) (rest : Option F) (a b : Bool) → a ≡ b → h s ≡ Some f → option_and_then h more ≡ rest →
        option_and_then h (cond a (Some s) more) ≡ cond b (Some f) rest
    step s f more rest true true e first later = first
    step s f more rest false false e first later = later
    step s f more rest true false e first later = let never : true ≡ false = e in cc
    step s f more rest false true e first later = let never : false ≡ true = e in cc

    pub found : (ss : List S) (fs : List F) → map h ss ≡ map Some fs → option_and_then h (find t ss) ≡ find u fs
    found [] [] e = refl
    found [] (f ∷ fs) e = let never : [] ≡ Some f ∷ map Some fs = e in cc
    found (s ∷ ss) [] e = let never : h s ∷ map h ss ≡ [] = e in cc
    found (s ∷ ss) (f ∷ fs) e =
        step s f (find t ss) (find u fs) (t s) (u f) (same s f (head s ss f fs e)) (head s ss f fs e) (found ss fs (tail s ss f fs e))

  first_agree : (n : ℕ) (ss : List S) (fs : List F) → map h ss ≡ map Some fs → map h (take n ss) ≡ map Some (take n fs)
  first_agree n ss fs e = sym (take-map h n ss) ∙ ap (take n) e ∙ take-map Some n fs

  pub part_agree : (k n : ℕ) (ss : List S) (fs : List F) → map h ss ≡ map Some fs → map h (drop k (take n ss)) ≡ map Some (drop k (take n fs))
  part_agree k n ss fs e = sym (drop-map h k (take n ss)) ∙ ap (drop k) (first_agree n ss fs e) ∙ drop-map Some k (take n fs)
