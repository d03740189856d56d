-- First places in lists that are put together.
use Rattle.std.proofs.Common.{◌≡◌, ℕ, ◌+◌, ◌<◌, ◌≤◌, refl, sym, ap, ◌∙◌, List, [], ◌∷◌, ◌++◌, Bool, true, false, cond, Some, length, map, arith}
use Rattle.std.specs.Prelude.{not, unwrap_or, position, option_map, nat_lt}
use Rattle.std.specs.Option.{option_or}
use Rattle.std.specs.List.{position_or_len}
use Rattle.path_index.specs.Places.{first_place}
use Rattle.flat_shapes.proofs.of_field_flatten.Tests.{two_ways}

module _ {A : Type 0} (test : A → Bool) where
  -- the place of the first, or the number of all
  pub place_from : (n : ℕ) (xs : List A) → unwrap_or (first_place test n xs) (n + length xs) ≡ n + position_or_len test xs
  place_from n [] = refl
  place_from n (x ∷ xs) = by (test x) (place_from (n + 1) xs)
    where
      by : (b : Bool) → unwrap_or (first_place test (n + 1) xs) (n + 1 + length xs) ≡ n + 1 + position_or_len test xs →
          unwrap_or (cond b (Some n) (first_place test (n + 1) xs)) (n + length (x ∷ xs)) ≡ n + cond (not b) (1 + position_or_len test xs) 0
      by true h = omega arith
      by false h =
          let e : n + length (x ∷ xs) ≡ n + 1 + length xs = omega arith in
          let f : n + 1 + position_or_len test xs ≡ n + (1 + position_or_len test xs) = omega arith in
          ap (unwrap_or (first_place test (n + 1) xs)) e ∙ h ∙ f

  -- in one list and then another
  pub place_append : (n : ℕ) (xs ys : List A) → first_place test n (xs ++ ys) ≡ option_or (first_place test n xs) (first_place test (n + length xs) ys)
  place_append n [] ys = let e : n ≡ n + 0 = omega arith in ap (λ m. first_place test m ys) e
  place_append n (x ∷ xs) ys = by (test x) (place_append (n + 1) xs ys)
    where
      by : (b : Bool) → first_place test (n + 1) (xs ++ ys) ≡ option_or (first_place test (n + 1) xs) (first_place test (n + 1 + length xs) ys) →
          cond b (Some n) (first_place test (n + 1) (xs ++ ys)) ≡ option_or (cond b (Some n) (first_place test (n + 1) xs)) (first_place test (n + length (x ∷ xs)) ys)
      by true h = refl
      by false h =
          let e : n + 1 + length xs ≡ n + length (x ∷ xs) = omega arith in
          h ∙ ap (λ m. option_or (first_place test (n + 1) xs) (first_place test m ys)) e

  -- a place is one of the list
  pub place_within : (n i : ℕ) (xs : List A) → first_place test n xs ≡ Some i → i < n + length xs
  place_within n i [] h = absurd (cc)
  place_within n i (x ∷ xs) h = by (test x) (place_within (n + 1) i xs) h
    where
      by : (b : Bool) → (first_place test (n + 1) xs ≡ Some i → i < n + 1 + length xs) → cond b (Some n) (first_place test (n + 1) xs) ≡ Some i → i < n + length (x ∷ xs)
      by true f e = grind (arith, e)
      by false f e = let g = f e in omega (arith, g)

-- in the images of a list
pub place_map : {A B : Type 0} (test : B → Bool) (f : A → B) (n : ℕ) (xs : List A) → first_place test n (map f xs) ≡ first_place (λ x. test (f x)) n xs
place_map test f n [] = refl
place_map test f n (x ∷ xs) = ap (cond (test (f x)) (Some n)) (place_map test f (n + 1) xs)

-- two tests that agree
pub place_same : {A : Type 0} (test other : A → Bool) → ((x : A) → test x ≡ other x) → (n : ℕ) (xs : List A) → first_place test n xs ≡ first_place other n xs
place_same test other same n [] = refl
place_same test other same n (x ∷ xs) = (λ i. cond (same x i) (Some n) (place_same test other same (n + 1) xs i))

-- places counted from elsewhere
pub place_shift : {A : Type 0} (test : A → Bool) (b k : ℕ) (xs : List A) → first_place test (b + k) xs ≡ option_map (λ i. b + i) (first_place test k xs)
place_shift test b k [] = refl
place_shift test b k (x ∷ xs) = by (test x) (place_shift test b (k + 1) xs)
  where
    by : (c : Bool) → first_place test (b + (k + 1)) xs ≡ option_map (λ i. b + i) (first_place test (k + 1) xs) →
        cond c (Some (b + k)) (first_place test (b + k + 1) xs) ≡ option_map (λ i. b + i) (cond c (Some k) (first_place test (k + 1) xs))
    by true h = refl
    by false h = let e : b + k + 1 ≡ b + (k + 1) = omega arith in ap (λ n. first_place test n xs) e ∙ h

-- the first that passes a test, or the number of all
pub position_is : {A : Type 0} (test : A → Bool) (xs : List A) → unwrap_or (position test xs) (length xs) ≡ unwrap_or (first_place test 0 xs) (length xs)
position_is {A} test xs = by_length ∙ sym by_place
  where
    small : (ys : List A) → position_or_len test ys ≤ length ys
    small [] = omega arith
    small (y ∷ ys) = two_ways (test y) (λ e. rw e (omega arith)) (λ e. let rec = small ys in rw e (omega arith))

    by_length : unwrap_or (position test xs) (length xs) ≡ position_or_len test xs
    by_length = let s = small xs in two_ways (nat_lt (position_or_len test xs) (length xs)) (λ e. rw e refl) (λ e. rw e (grind arith))

    by_place : unwrap_or (first_place test 0 xs) (length xs) ≡ position_or_len test xs
    by_place =
        let e : length xs ≡ 0 + length xs = omega arith in
        let f : 0 + position_or_len test xs ≡ position_or_len test xs = omega arith in
        ap (unwrap_or (first_place test 0 xs)) e ∙ place_from test 0 xs ∙ f
