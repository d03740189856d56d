-- The first place at which the library stands.
use Rattle.std.proofs.Common.{◌≡◌, ◌∙◌, refl, sym, ap, arith, ℕ, zero, suc, ◌+◌, ◌≤◌, ◌<◌, Bool, true, false, cond, List, [], ◌∷◌, Option, Some, None, drop, length, add-one}
use Rattle.std.specs.Prelude.{slice_get}
use Rattle.std.specs.Option.{option_map_or}
use Rattle.type_members.specs.name_scope.Declaring.{first_place}

-- nothing stands at the end of a list that ends there
none_left : {X : Type 0} (test : X → Bool) (n m : ℕ) (xs : List X) → slice_get xs n ≡ None → first_place test m (drop n xs) ≡ None
none_left test zero m [] h = refl
none_left test zero m (x ∷ xs) h = cc
none_left test (suc n) m [] h = refl
none_left test (suc n) m (x ∷ xs) h = none_left test n m xs h

-- the test at a place decides what the first place from there on is
first_from : {X : Type 0} (test : X → Bool) (n m : ℕ) (xs : List X) → option_map_or test (slice_get xs n) false ≡ true → first_place test m (drop n xs) ≡ Some m
first_from test zero m [] h = cc
first_from test zero m (x ∷ xs) h = ap (λ b. cond b (Some m) (first_place test (m + 1) xs)) h
first_from test (suc n) m [] h = cc
first_from test (suc n) m (x ∷ xs) h = first_from test n m xs h

later_from : {X : Type 0} (test : X → Bool) (n m : ℕ) (xs : List X) → option_map_or test (slice_get xs n) false ≡ false
    → first_place test m (drop n xs) ≡ first_place test (m + 1) (drop (suc n) xs)
later_from test zero m [] h = refl
later_from test zero m (x ∷ xs) h = ap (λ b. cond b (Some m) (first_place test (m + 1) xs)) h
later_from test (suc n) m [] h = refl
later_from test (suc n) m (x ∷ xs) h = later_from test n m xs h

pub found_there : {X : Type 0} (test : X → Bool) (xs : List X) (n : ℕ) → first_place test n (drop n xs) ≡ first_place test 0 xs → option_map_or test (slice_get xs n) false ≡ true
    → Some n ≡ first_place test 0 xs
found_there test xs n before h = sym (first_from test n n xs h) ∙ before

pub not_there : {X : Type 0} (test : X → Bool) (xs : List X) (n : ℕ) → first_place test n (drop n xs) ≡ first_place test 0 xs → option_map_or test (slice_get xs n) false ≡ false
    → first_place test (n + 1) (drop (n + 1) xs) ≡ first_place test 0 xs
not_there test xs n before h = ap (λ k. first_place test (n + 1) (drop k xs)) (add-one n) ∙ sym (later_from test n n xs h) ∙ before

pub nowhere : {X : Type 0} (test : X → Bool) (xs : List X) (n : ℕ) → first_place test n (drop n xs) ≡ first_place test 0 xs → slice_get xs n ≡ None
    → None ≡ first_place test 0 xs
nowhere test xs n before h = sym (none_left test n n xs h) ∙ before
