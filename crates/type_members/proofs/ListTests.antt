-- Tests that hold of all items of a list, or of none.
use Rattle.std.proofs.Common.{◌≡◌, ◌∙◌, refl, ap, ◌||◌, ◌&&◌, Bool, true, false, not, cond, ℕ, zero, suc, List, [], ◌∷◌, ◌++◌, filter, drop, take}
use Rattle.std.specs.Prelude.{flat_map}
use Rattle.std.specs.List.{list_all, list_any}
use Rattle.std.proofs.lemmas.List.Folds.{list_all-append}

pub both : (a b : Bool) → (a && b) ≡ true → (a ≡ true) × (b ≡ true)
both true b e = (refl, e)
both false b e = let never : false ≡ true = e in cc

pub joined : (a b : Bool) → a ≡ true → b ≡ true → (a && b) ≡ true
joined a b e f = ap (λ c. c && b) e ∙ f

pub neither : (a b : Bool) → (a || b) ≡ false → (a ≡ false) × (b ≡ false)
neither true b e = let never : true ≡ false = e in cc
neither false b e = (refl, e)

pub not_true : (b : Bool) → not b ≡ true → b ≡ false
not_true true e = let never : false ≡ true = e in cc
not_true false e = refl

module _ {X : Type 0} where
  pub all_append : (p : X → Bool) (xs ys : List X) → list_all p xs ≡ true → list_all p ys ≡ true → list_all p (xs ++ ys) ≡ true
  all_append p xs ys f g = list_all-append p xs ys ∙ joined (list_all p xs) (list_all p ys) f g

  pub all_always : (p : X → Bool) → ((x : X) → p x ≡ true) → (xs : List X) → list_all p xs ≡ true
  all_always p each [] = refl
  all_always p each (x ∷ xs) = joined (p x) (list_all p xs) (each x) (all_always p each xs)

  pub all_same : (p q : X → Bool) → ((x : X) → p x ≡ q x) → (xs : List X) → list_all p xs ≡ list_all q xs
  all_same p q each [] = refl
  all_same p q each (x ∷ xs) = ap (λ b. b && list_all p xs) (each x) ∙ ap (λ b. q x && b) (all_same p q each xs)

  pub all_filtered : (p q : X → Bool) (xs : List X) → list_all p xs ≡ true → list_all p (filter q xs) ≡ true
  all_filtered p q [] f = refl
  all_filtered p q (x ∷ xs) f =
      let parts : (p x ≡ true) × (list_all p xs ≡ true) = both (p x) (list_all p xs) f in
      by (q x) parts.0 (all_filtered p q xs parts.1)
    where
      by : (b : Bool) → p x ≡ true → list_all p (filter q xs) ≡ true → list_all p (cond b (x ∷ filter q xs) (filter q xs)) ≡ true
      by true here rest = joined (p x) (list_all p (filter q xs)) here rest
      by false here rest = rest

  pub all_taken : (p : X → Bool) (n : ℕ) (xs : List X) → list_all p xs ≡ true → list_all p (take n xs) ≡ true
  all_taken p zero xs f = refl
  all_taken p (suc n) [] f = refl
  all_taken p (suc n) (x ∷ xs) f =
      let parts : (p x ≡ true) × (list_all p xs ≡ true) = both (p x) (list_all p xs) f in
      joined (p x) (list_all p (take n xs)) parts.0 (all_taken p n xs parts.1)

  pub all_dropped : (p : X → Bool) (n : ℕ) (xs : List X) → list_all p xs ≡ true → list_all p (drop n xs) ≡ true
  all_dropped p zero xs f = f
  all_dropped p (suc n) [] f = refl
  all_dropped p (suc n) (x ∷ xs) f = all_dropped p n xs (both (p x) (list_all p xs) f).1

  -- a test that all items pass keeps all
  pub all_kept : (p : X → Bool) (xs : List X) → list_all p xs ≡ true → filter p xs ≡ xs
  all_kept p [] f = refl
  all_kept p (x ∷ xs) f =
      let parts : (p x ≡ true) × (list_all p xs ≡ true) = both (p x) (list_all p xs) f in
      ap (λ b. cond b (x ∷ filter p xs) (filter p xs)) parts.0 ∙ ap (λ rest. x ∷ rest) (all_kept p xs parts.1)

  -- a test that no item passes keeps none
  pub none_kept : (p : X → Bool) (xs : List X) → list_all (λ x. not (p x)) xs ≡ true → filter p xs ≡ []
  none_kept p [] f = refl
  none_kept p (x ∷ xs) f =
      let parts : (not (p x) ≡ true) × (list_all (λ x. not (p x)) xs ≡ true) = both (not (p x)) (list_all (λ x. not (p x)) xs) f in
      ap (λ b. cond b (x ∷ filter p xs) (filter p xs)) (not_true (p x) parts.0) ∙ none_kept p xs parts.1

  -- if a test keeps none, no item passes it
  pub all_fail : (p : X → Bool) (xs : List X) → filter p xs ≡ [] → list_all (λ x. not (p x)) xs ≡ true
  all_fail p [] e = refl
  all_fail p (x ∷ xs) e = by (p x) e (λ h. all_fail p xs h)
    where
      by : (b : Bool) → cond b (x ∷ filter p xs) (filter p xs) ≡ [] → (filter p xs ≡ [] → list_all (λ x. not (p x)) xs ≡ true) → (not b && list_all (λ x. not (p x)) xs) ≡ true
      by true h on = absurd (cc h)
      by false h on = on h

  pub none_any : (p : X → Bool) (xs : List X) → list_all (λ x. not (p x)) xs ≡ not (list_any p xs)
  none_any p [] = refl
  none_any p (x ∷ xs) = by (p x) (none_any p xs)
    where
      by : (b : Bool) → list_all (λ x. not (p x)) xs ≡ not (list_any p xs) → (not b && list_all (λ x. not (p x)) xs) ≡ not (b || list_any p xs)
      by true rest = refl
      by false rest = rest

  pub all_flat : {Y : Type 0} (p : X → Bool) (f : Y → List X) (q : Y → Bool) → ((y : Y) → q y ≡ true → list_all p (f y) ≡ true) → (ys : List Y) →
      list_all p (flat_map f (filter q ys)) ≡ true
  all_flat p f q each [] = refl
  all_flat {Y} p f q each (y ∷ ys) = by (q y) refl (all_flat p f q each ys)
    where
      by : (b : Bool) → q y ≡ b → list_all p (flat_map f (filter q ys)) ≡ true → list_all p (flat_map f (cond b (y ∷ filter q ys) (filter q ys))) ≡ true
      by true is rest = all_append p (f y) (flat_map f (filter q ys)) (each y is) rest
      by false is rest = rest

  pub all_weaker : (p q : X → Bool) → ((x : X) → p x ≡ true → q x ≡ true) → (xs : List X) → list_all p xs ≡ true → list_all q xs ≡ true
  all_weaker p q each [] f = refl
  all_weaker p q each (x ∷ xs) f =
      let parts : (p x ≡ true) × (list_all p xs ≡ true) = both (p x) (list_all p xs) f in
      joined (q x) (list_all q xs) (each x parts.0) (all_weaker p q each xs parts.1)
