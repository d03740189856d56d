-- First places, and what stands there.
use Rattle.std.proofs.Common.{◌≡◌, ◌∙◌, refl, sym, ap, ℕ, ◌+◌, ◌<◌, ◌≤◌, List, [], ◌∷◌, ◌++◌, Bool, true, false, cond, Option, Some, None, length, take, arith, get_or, length-take, length-append, append_assoc, Bor, option_copied}
use Rattle.std.specs.Prelude.{slice_get, find, option_and_then}
use Rattle.std.specs.Option.{option_or}
use Rattle.std.specs.Slice.{IsItemAt}
use Rattle.std.proofs.lemmas.List.{take_more}
use Rattle.std.proofs.lemmas.Option.{slice_get_past, slice_get-get_or}
use Rattle.osc_base.specs.declared.path.Path.{Path}
use Rattle.osc_base.specs.Paths.{same_path}
use Rattle.path_index.specs.Places.{first_place}

-- the first place in one more
more_from : {X : Type 0} (test : X → Bool) (n : ℕ) (xs : List X) (x : X) → first_place test n (xs ++ x ∷ []) ≡ option_or (first_place test n xs) (cond (test x) (Some (n + length xs)) None)
more_from test n [] x = let e : n + 0 ≡ n = omega arith in ap (λ m. cond (test x) (Some m) None) (sym e)
more_from test n (y ∷ ys) x = by (test y) (more_from test (n + 1) ys x)
  where
    by : (b : Bool) → first_place test (n + 1) (ys ++ x ∷ []) ≡ option_or (first_place test (n + 1) ys) (cond (test x) (Some (n + 1 + length ys)) None) →
        cond b (Some n) (first_place test (n + 1) (ys ++ x ∷ [])) ≡ option_or (cond b (Some n) (first_place test (n + 1) ys)) (cond (test x) (Some (n + length (y ∷ ys))) None)
    by true h = refl
    by false h = h ∙ (let e : n + 1 + length ys ≡ n + length (y ∷ ys) = omega arith in ap (λ m. option_or (first_place test (n + 1) ys) (cond (test x) (Some m) None)) e)

pub first_more : {X : Type 0} (test : X → Bool) (xs : List X) (i : ℕ) (x : X) → i < length xs → first_place test 0 (take (i + 1) xs) ≡ option_or (first_place test 0 (take i xs)) (cond (test (get_or xs i x)) (Some i) None)
first_more test xs i x h =
    let n : 0 + length (take i xs) ≡ i = omega (arith, length-take i xs) in
    ap (first_place test 0) (take_more xs i x h) ∙ more_from test 0 (take i xs) (get_or xs i x)
    ∙ ap (λ m. option_or (first_place test 0 (take i xs)) (cond (test (get_or xs i x)) (Some m) None)) n

-- what stands at the first place is the first that passes
at_end : {X : Type 0} (before : List X) (x : X) (xs : List X) → slice_get (before ++ x ∷ xs) (length before) ≡ Some x
at_end [] x xs = refl
at_end (b ∷ bs) x xs = at_end bs x xs

find_from : {X : Type 0} (test : X → Bool) (before xs : List X) → find test xs ≡ option_and_then (slice_get (before ++ xs)) (first_place test (length before) xs)
find_from test before [] = refl
find_from {X} test before (x ∷ xs) = by (test x) (find_from test (before ++ x ∷ []) xs)
  where
    longer : length (before ++ x ∷ []) ≡ length before + 1
    longer = length-append before (x ∷ [])

    by : (b : Bool) → find test xs ≡ option_and_then (slice_get ((before ++ x ∷ []) ++ xs)) (first_place test (length (before ++ x ∷ [])) xs) →
        cond b (Some x) (find test xs) ≡ option_and_then (slice_get (before ++ x ∷ xs)) (cond b (Some (length before)) (first_place test (length before + 1) xs))
    by true h = sym (at_end before x xs)
    by false h = h ∙ (λ k. option_and_then (slice_get (append_assoc before (x ∷ []) xs k)) (first_place test (longer k) xs))

pub find_is : {X : Type 0} (test : X → Bool) (xs : List X) → find test xs ≡ option_and_then (slice_get xs) (first_place test 0 xs)
find_is test xs = find_from test [] xs

pub item_is : {X : Type 0} (xs : List X) (i : ℕ) (r : Option (Bor X)) → IsItemAt xs i r → option_copied r ≡ slice_get xs i
item_is xs i None h = sym (slice_get_past xs i h.3)
item_is xs i (Some x) h = let n : i ≤ i = omega arith in ap Some (h.4 n x.now) ∙ sym (slice_get-get_or xs i x.now h.3.0)

-- an index of some things, after one thing more
pub noted : {X : Type 0} (f g : Path → Option ℕ) (path_of : X → Path) (xs : List X) (i : ℕ) (x : X) (place : ℕ) (key : Path)
    → i < length xs → x ≡ get_or xs i x → place ≡ i → key ≡ path_of x
    → ((p : Path) → f p ≡ first_place (λ y. same_path (path_of y) p) 0 (take i xs))
    → ((p : Path) → g p ≡ option_or (f p) (cond (same_path key p) (Some place) None))
    → (p : Path) → g p ≡ first_place (λ y. same_path (path_of y) p) 0 (take (i + 1) xs)
noted f g path_of xs i x place key lt is at named before after p =
    after p
    ∙ (λ k. option_or (before p k) (cond (same_path (named k) p) (Some (at k)) None))
    ∙ ap (λ y. option_or (first_place (λ z. same_path (path_of z) p) 0 (take i xs)) (cond (same_path (path_of y) p) (Some i) None)) is
    ∙ sym (first_more (λ y. same_path (path_of y) p) xs i x lt)
