-- The place of a text among the texts.
use Rattle.std.proofs.Common.{◌≡◌, ◌∙◌, refl, sym, ap, ℕ, ◌+◌, List, [], ◌∷◌, Bool, true, false, cond, Option, Some}
use Rattle.std.specs.Prelude.{◌||◌, is_some}
use Rattle.std.specs.List.{position, position_from, list_any}
use Rattle.std.proofs.lemmas.Iterator.Adapters.{position_from-zero}
use Rattle.cond_inherit.specs.name_scope.Declaring.{first_place}

module _ {X : Type 0} (test : X → Bool) where
  place_from : (n : ℕ) (xs : List X) → first_place test n xs ≡ position_from test n xs
  place_from n [] = refl
  place_from n (x ∷ xs) = ap (cond (test x) (Some n)) (place_from (n + 1) xs)

  -- counted from 0, the place of the first that passes is its position
  pub place_is : (xs : List X) → first_place test 0 xs ≡ position test xs
  place_is xs = place_from 0 xs ∙ sym (position_from-zero test xs)

  found : (b : Bool) (n : ℕ) (o : Option ℕ) → b || is_some o ≡ is_some (cond b (Some n) o)
  found true n o = refl
  found false n o = refl

  any_from : (n : ℕ) (xs : List X) → list_any test xs ≡ is_some (first_place test n xs)
  any_from n [] = refl
  any_from n (x ∷ xs) = ap (λ b. test x || b) (any_from (n + 1) xs) ∙ found (test x) n (first_place test (n + 1) xs)

  -- one passes exactly if the first that passes has a position
  pub any_is : (xs : List X) → list_any test xs ≡ is_some (position test xs)
  any_is xs = any_from 0 xs ∙ ap is_some (place_is xs)
