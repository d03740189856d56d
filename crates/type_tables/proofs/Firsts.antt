-- First places, and what stands there.
use Rattle.std.proofs.Common.{◌≡◌, ◌∙◌, refl, sym, ap, ℕ, zero, suc, ◌+◌, ◌<◌, ◌≤◌, nat_lt, List, [], ◌∷◌, ◌++◌, Bool, true, false, true≢false, not, ◌&&◌, ◌||◌, cond, Option, Some, None, length, take, drop, arith, bytes_eq, get_or, length-append, append_assoc, Bor, option_copied, option_map}
use Rattle.std.specs.Prelude.{slice_get, find, option_and_then}
use Rattle.std.specs.List.{list_any}
use Rattle.std.specs.Option.{is_some, option_or}
use Rattle.std.specs.Slice.{IsItemAt}
use Rattle.std.proofs.lemmas.Bool.Decides.{nat_tests}
use Rattle.std.proofs.lemmas.List.{take_more}
use Rattle.std.proofs.lemmas.List.Folds.{list_any-append}
use Rattle.std.proofs.lemmas.Slice.Eq.{bytes_eq-Decides}
use Rattle.std.proofs.lemmas.Option.{slice_get_past, slice_get-get_or}
use Rattle.type_members.specs.name_scope.Declaring.{first_place}
use Rattle.type_members.proofs.of_name_scope.Tables.{place_next}
use Rattle.type_tables.specs.Places.{AreDistinct, high_place, low_place, passes_once}

-- what stands at the first place is the first that passes
at_end : {X : Type 0} (before : List X) (x : X) (xs : List X) → slice_get (before ++ x ∷ xs) (length before) ≡ Some x
at_end [] x xs = refl
at_end (b ∷ bs) x xs = at_end bs x xs

find_from : {X : Type 0} (test : X → Bool) (before xs : List X) → find test xs ≡ option_and_then (slice_get (before ++ xs)) (first_place test (length before) xs)
find_from test before [] = refl
find_from {X} test before (x ∷ xs) = by (test x) (find_from test (before ++ x ∷ []) xs)
  where
    longer : length (before ++ x ∷ []) ≡ length before + 1
    longer = length-append before (x ∷ [])

    by : (b : Bool) → find test xs ≡ option_and_then (slice_get ((before ++ x ∷ []) ++ xs)) (first_place test (length (before ++ x ∷ [])) xs) →
        cond b (Some x) (find test xs) ≡ option_and_then (slice_get (before ++ x ∷ xs)) (cond b (Some (length before)) (first_place test (length before + 1) xs))
    by true h = sym (at_end before x xs)
    by false h = h ∙ (λ k. option_and_then (slice_get (append_assoc before (x ∷ []) xs k)) (first_place test (longer k) xs))

pub find_is : {X : Type 0} (test : X → Bool) (xs : List X) → find test xs ≡ option_and_then (slice_get xs) (first_place test 0 xs)
find_is test xs = find_from test [] xs

pub item_is : {X : Type 0} (xs : List X) (i : ℕ) (r : Option (Bor X)) → IsItemAt xs i r → option_copied r ≡ slice_get xs i
item_is xs i None h = sym (slice_get_past xs i h.3)
item_is xs i (Some x) h = let n : i ≤ i = omega arith in ap Some (h.4 n x.now) ∙ sym (slice_get-get_or xs i x.now h.3.0)

-- the places of some things, after one thing more
pub noted : {X : Type 0} (f g : List ℕ → Option ℕ) (name_of : X → List ℕ) (xs : List X) (i : ℕ) (x : X) (place : ℕ) (key : List ℕ)
    → i < length xs → x ≡ get_or xs i x → place ≡ i → key ≡ name_of x
    → ((name : List ℕ) → f name ≡ first_place (λ y. bytes_eq (name_of y) name) 0 (take i xs))
    → ((name : List ℕ) → g name ≡ option_or (f name) (cond (bytes_eq key name) (Some place) None))
    → (name : List ℕ) → g name ≡ first_place (λ y. bytes_eq (name_of y) name) 0 (take (i + 1) xs)
noted f g name_of xs i x place key lt is at named before after name =
    after name
    ∙ (λ k. option_or (before name k) (cond (bytes_eq (named k) name) (Some place) None))
    ∙ place_next (λ y. bytes_eq (name_of y) name) xs i place x lt at is

-- a test that is turned round
same_test : (r s : Bool) → (r ≡ true → s ≡ true) → (s ≡ true → r ≡ true) → r ≡ s
same_test true true f g = refl
same_test true false f g = sym (f refl)
same_test false true f g = g refl
same_test false false f g = refl

text_turned : (a b : List ℕ) → bytes_eq a b ≡ bytes_eq b a
text_turned a b =
    same_test (bytes_eq a b) (bytes_eq b a)
    (λ e. (bytes_eq-Decides b a).1 (sym ((bytes_eq-Decides a b).0 e)))
    (λ e. (bytes_eq-Decides a b).1 (sym ((bytes_eq-Decides b a).0 e)))

pub text_place : (text : List ℕ) (n : ℕ) (xs : List (List ℕ)) → first_place (λ x. bytes_eq x text) n xs ≡ first_place (bytes_eq text) n xs
text_place text n [] = refl
text_place text n (x ∷ xs) = λ k. cond (text_turned x text k) (Some n) (text_place text (n + 1) xs k)

-- a place isn't before the start
abbrev From : ℕ → Option ℕ → Type 0
From start None = Unit {0}
From start (Some i) = start ≤ i

weaker : (start : ℕ) (o : Option ℕ) → From (start + 1) o → From start o
weaker start None h = tt
weaker start (Some i) h = omega (arith, h)

at_or_past : (start : ℕ) (o : Option ℕ) (b : Bool) → From start o → From start (cond b (Some start) o)
at_or_past start o true h = let le : start ≤ start = omega arith in le
at_or_past start o false h = h

from : {X : Type 0} (test : X → Bool) (start : ℕ) (ys : List X) → From start (first_place test start ys)
from test start [] = tt
from test start (y ∷ ys) = at_or_past start (first_place test (start + 1) ys) (test y) (weaker start (first_place test (start + 1) ys) (from test (start + 1) ys))

not_less : (start i : ℕ) → start ≤ i → nat_lt i (start + zero) ≡ false
not_less start i h = grind (arith, nat_tests)

past : (start : ℕ) (o : Option ℕ) → From start o → option_and_then (λ i. cond (nat_lt i (start + zero)) (Some i) None) o ≡ None
past start None h = refl
past start (Some i) h = ap (λ b. cond b (Some i) None) (not_less start i h)

is_less : (start n : ℕ) → nat_lt start (start + suc n) ≡ true
is_less start n = grind (arith, nat_tests)

-- the first place is among the first things, or none of these passes
low_is : {X : Type 0} (test : X → Bool) (n start : ℕ) (xs : List X) →
    first_place test start (take n xs) ≡ option_and_then (λ i. cond (nat_lt i (start + n)) (Some i) None) (first_place test start xs)
low_is test zero start [] = refl
low_is test (suc n) start [] = refl
low_is test zero start (x ∷ xs) = sym (past start (first_place test start (x ∷ xs)) (from test start (x ∷ xs)))
low_is test (suc n) start (x ∷ xs) = by (test x) (low_is test n (start + 1) xs)
  where
    by : (b : Bool) → first_place test (start + 1) (take n xs) ≡ option_and_then (λ i. cond (nat_lt i (start + 1 + n)) (Some i) None) (first_place test (start + 1) xs) →
        cond b (Some start) (first_place test (start + 1) (take n xs))
        ≡ option_and_then (λ i. cond (nat_lt i (start + suc n)) (Some i) None) (cond b (Some start) (first_place test (start + 1) xs))
    by true h = sym (ap (λ b. cond b (Some start) None) (is_less start n))
    by false h =
        let same : start + 1 + n ≡ start + suc n = omega arith in
        h ∙ ap (λ m. option_and_then (λ i. cond (nat_lt i m) (Some i) None) (first_place test (start + 1) xs)) same

one_less : (i n : ℕ) → nat_lt (suc i) (suc n) ≡ true → nat_lt i n ≡ true
one_less i n h = grind (arith, nat_tests)

low_item : {X : Type 0} (n i : ℕ) (xs : List X) → nat_lt i n ≡ true → slice_get (take n xs) i ≡ slice_get xs i
low_item zero i xs less = let below : i < 0 = grind (arith, nat_tests) in absurd (omega (arith, below))
low_item (suc n) i [] less = refl
low_item (suc n) zero (x ∷ xs) less = refl
low_item (suc n) (suc i) (x ∷ xs) less = low_item n i xs (one_less i n less)

-- the first that passes among the first things
pub found_low : {X : Type 0} (test : X → Bool) (n : ℕ) (xs : List X) (o : Option ℕ) → o ≡ low_place n (first_place test 0 xs) →
    find test (take n xs) ≡ option_and_then (slice_get xs) o
found_low test n xs o is =
    let same : 0 + n ≡ n = omega arith in
    find_is test (take n xs)
    ∙ ap (option_and_then (slice_get (take n xs))) (low_is test n 0 xs ∙ ap (λ m. low_place m (first_place test 0 xs)) same)
    ∙ by (first_place test 0 xs) ∙ ap (option_and_then (slice_get xs)) (sym is)
  where
    in_low : (i : ℕ) (b : Bool) → nat_lt i n ≡ b → option_and_then (slice_get (take n xs)) (cond b (Some i) None) ≡ option_and_then (slice_get xs) (cond b (Some i) None)
    in_low i true less = low_item n i xs less
    in_low i false less = refl

    by : (p : Option ℕ) → option_and_then (slice_get (take n xs)) (low_place n p) ≡ option_and_then (slice_get xs) (low_place n p)
    by None = refl
    by (Some i) = in_low i (nat_lt i n) refl

-- Nothing passes

no_place : {X : Type 0} (test : X → Bool) (n : ℕ) (xs : List X) → first_place test n xs ≡ None → list_any test xs ≡ false
no_place test n [] e = refl
no_place test n (x ∷ xs) e = by (test x) e (no_place test (n + 1) xs)
  where
    by : (b : Bool) → cond b (Some n) (first_place test (n + 1) xs) ≡ None → (first_place test (n + 1) xs ≡ None → list_any test xs ≡ false) → (b || list_any test xs) ≡ false
    by true e later = let never : Some n ≡ None = e in cc
    by false e later = later e

later_none : (b c : Bool) → (b || c) ≡ false → c ≡ false
later_none true c e = absurd (true≢false e)
later_none false c e = e

none_found : {X : Type 0} (test : X → Bool) (xs : List X) → list_any test xs ≡ false → find test xs ≡ None
none_found test [] e = refl
none_found test (x ∷ xs) e = by (test x) e (none_found test xs)
  where
    by : (b : Bool) → (b || list_any test xs) ≡ false → (list_any test xs ≡ false → find test xs ≡ None) → cond b (Some x) (find test xs) ≡ None
    by true e later = absurd (true≢false e)
    by false e later = later e

none_in_first : {X : Type 0} (test : X → Bool) (n : ℕ) (xs : List X) → list_any test xs ≡ false → list_any test (take n xs) ≡ false
none_in_first test zero xs e = refl
none_in_first test (suc n) [] e = refl
none_in_first test (suc n) (x ∷ xs) e = by (test x) e (none_in_first test n xs)
  where
    by : (b : Bool) → (b || list_any test xs) ≡ false → (list_any test xs ≡ false → list_any test (take n xs) ≡ false) → (b || list_any test (take n xs)) ≡ false
    by true e later = absurd (true≢false e)
    by false e later = later e

none_in_rest : {X : Type 0} (test : X → Bool) (n : ℕ) (xs : List X) → list_any test xs ≡ false → list_any test (drop n xs) ≡ false
none_in_rest test zero xs e = e
none_in_rest test (suc n) [] e = refl
none_in_rest test (suc n) (x ∷ xs) e = none_in_rest test n xs (later_none (test x) (list_any test xs) e)

-- Names that are distinct

neither : (b c : Bool) → not b ≡ true → (c ≡ true → true ≡ false) → not (b || (c || false)) ≡ true
neither true c once fresh = absurd (true≢false (sym once))
neither false true once fresh = absurd (true≢false (fresh refl))
neither false false once fresh = refl

once_alone : (b : Bool) → cond b (not false) true ≡ true
once_alone true = refl
once_alone false = refl

once_more : {X : Type 0} (test : X → Bool) (ys : List X) (x : X) → passes_once test ys ≡ true → (test x ≡ true → list_any test ys ≡ false) → passes_once test (ys ++ x ∷ []) ≡ true
once_more test [] x once fresh = once_alone (test x)
once_more test (y ∷ ys) x once fresh = by (test y) once fresh (once_more test ys x)
  where
    by : (b : Bool) → cond b (not (list_any test ys)) (passes_once test ys) ≡ true → (test x ≡ true → (b || list_any test ys) ≡ false) →
        (passes_once test ys ≡ true → (test x ≡ true → list_any test ys ≡ false) → passes_once test (ys ++ x ∷ []) ≡ true) →
        cond b (not (list_any test (ys ++ x ∷ []))) (passes_once test (ys ++ x ∷ [])) ≡ true
    by true once fresh later = ap not (list_any-append test ys (x ∷ [])) ∙ neither (list_any test ys) (test x) once fresh
    by false once fresh later = later once fresh

turned : (b : Bool) → not b ≡ true → b ≡ false
turned true e = absurd (true≢false (sym e))
turned false e = refl

first_true : (b c : Bool) → (b && c) ≡ true → b ≡ true
first_true true c e = refl
first_true false c e = e

second_true : (b c : Bool) → (b && c) ≡ true → c ≡ true
second_true true c e = e
second_true false c e = absurd (true≢false (sym e))

nothing : (o : Option ℕ) → not (is_some o) ≡ true → o ≡ None
nothing None e = refl
nothing (Some i) e = absurd (true≢false (sym e))

-- a name that has a place already stands twice
pub known : (b : Bool) (o : Option ℕ) → is_some o ≡ true → false ≡ (b && not (is_some o))
known true None e = e
known true (Some i) e = refl
known false o e = refl

pub unknown : (b : Bool) (o : Option ℕ) → is_some o ≡ false → b ≡ (b && not (is_some o))
unknown true None e = refl
unknown true (Some i) e = e
unknown false o e = refl

-- names are distinct, after one thing more whose name had no place
pub distinct_more : {X : Type 0} (f : List ℕ → Option ℕ) (name_of : X → List ℕ) (xs : List X) (i : ℕ) (x : X) (key : List ℕ) (old new : Bool)
    → i < length xs → x ≡ get_or xs i x → key ≡ name_of x
    → ((name : List ℕ) → f name ≡ first_place (λ y. bytes_eq (name_of y) name) 0 (take i xs))
    → (old ≡ true → AreDistinct name_of (take i xs))
    → new ≡ (old && not (is_some (f key)))
    → new ≡ true → (name : List ℕ) → passes_once (λ y. bytes_eq (name_of y) name) (take (i + 1) xs) ≡ true
distinct_more {X} f name_of xs i x key old new lt at named before was after is name =
    let test : X → Bool = λ y. bytes_eq (name_of y) name in
    let both : (old && not (is_some (f key))) ≡ true = sym after ∙ is in
    let none : f key ≡ None = nothing (f key) (second_true old (not (is_some (f key))) both) in
    ap (passes_once test) (take_more xs i x lt ∙ ap (λ y. take i xs ++ y ∷ []) (sym at))
    ∙ once_more test (take i xs) x (was (first_true old (not (is_some (f key))) both) name)
    (λ same. no_place test 0 (take i xs) (sym (before name) ∙ ap f (sym ((bytes_eq-Decides (name_of x) name).0 same)) ∙ ap f (sym named) ∙ none))

-- The first that passes in a part

below_none : (i : ℕ) → nat_lt i 0 ≡ false
below_none i = grind (arith, nat_tests)

first_below : (n : ℕ) → nat_lt 0 (suc n) ≡ true
first_below n = grind (arith, nat_tests)

high_all : (o : Option ℕ) → high_place 0 o ≡ o
high_all None = refl
high_all (Some i) = ap (λ b. cond b None (Some i)) (below_none i)

low_none : (o : Option ℕ) → low_place 0 o ≡ None
low_none None = refl
low_none (Some i) = ap (λ b. cond b (Some i) None) (below_none i)

shifted : {X : Type 0} (test : X → Bool) (n : ℕ) (xs : List X) → first_place test (n + 1) xs ≡ option_map (λ i. suc i) (first_place test n xs)
shifted test n [] = refl
shifted test n (x ∷ xs) = by (test x) (shifted test (n + 1) xs)
  where
    by : (b : Bool) → first_place test (n + 1 + 1) xs ≡ option_map (λ i. suc i) (first_place test (n + 1) xs) →
        cond b (Some (n + 1)) (first_place test (n + 1 + 1) xs) ≡ option_map (λ i. suc i) (cond b (Some n) (first_place test (n + 1) xs))
    by true h = let e : n + 1 ≡ suc n = omega arith in ap Some e
    by false h = h

one_more : (i n : ℕ) → nat_lt i n ≡ true → nat_lt (suc i) (suc n) ≡ true
one_more i n h = grind (arith, nat_tests)

same_less : (i n : ℕ) → nat_lt (suc i) (suc n) ≡ nat_lt i n
same_less i n = same_test (nat_lt (suc i) (suc n)) (nat_lt i n) (one_less i n) (one_more i n)

high_item : {X : Type 0} (x : X) (xs : List X) (i : ℕ) (b : Bool) → option_and_then (slice_get (x ∷ xs)) (cond b None (Some (suc i))) ≡ option_and_then (slice_get xs) (cond b None (Some i))
high_item x xs i true = refl
high_item x xs i false = refl

low_high_item : {X : Type 0} (x : X) (xs : List X) (from i : ℕ) (b : Bool) →
    option_and_then (slice_get (x ∷ xs)) (high_place (suc from) (cond b (Some (suc i)) None)) ≡ option_and_then (slice_get xs) (high_place from (cond b (Some i) None))
low_high_item x xs from i true = ap (λ b. option_and_then (slice_get (x ∷ xs)) (cond b None (Some (suc i)))) (same_less i from) ∙ high_item x xs i (nat_lt i from)
low_high_item x xs from i false = refl

item_after : {X : Type 0} (x : X) (xs : List X) (from to : ℕ) (o : Option ℕ) →
    option_and_then (slice_get (x ∷ xs)) (high_place (suc from) (low_place (suc to) (option_map (λ i. suc i) o))) ≡ option_and_then (slice_get xs) (high_place from (low_place to o))
item_after x xs from to None = refl
item_after x xs from to (Some i) =
    ap (λ b. option_and_then (slice_get (x ∷ xs)) (high_place (suc from) (cond b (Some (suc i)) None))) (same_less i to) ∙ low_high_item x xs from i (nat_lt i to)

first_left : {X : Type 0} (xs : List X) (from to : ℕ) → option_and_then (slice_get xs) (high_place (suc from) (low_place (suc to) (Some 0))) ≡ None
first_left xs from to =
    ap (λ b. option_and_then (slice_get xs) (high_place (suc from) (cond b (Some 0) None))) (first_below to)
    ∙ ap (λ b. option_and_then (slice_get xs) (cond b None (Some 0))) (first_below from)

-- the first that passes in a part stands at the first place, if this lies in the part
pub found_part : {X : Type 0} (test : X → Bool) (from to : ℕ) (xs : List X) → passes_once test xs ≡ true →
    find test (drop from (take to xs)) ≡ option_and_then (slice_get xs) (high_place from (low_place to (first_place test 0 xs)))
found_part test zero to xs once =
    found_low test to xs (low_place to (first_place test 0 xs)) refl ∙ ap (option_and_then (slice_get xs)) (sym (high_all (low_place to (first_place test 0 xs))))
found_part test (suc from) zero xs once = ap (λ o. option_and_then (slice_get xs) (high_place (suc from) o)) (sym (low_none (first_place test 0 xs)))
found_part test (suc from) (suc to) [] once = refl
found_part test (suc from) (suc to) (x ∷ xs) once = by (test x) once (found_part test from to xs)
  where
    by : (b : Bool) → cond b (not (list_any test xs)) (passes_once test xs) ≡ true →
        (passes_once test xs ≡ true → find test (drop from (take to xs)) ≡ option_and_then (slice_get xs) (high_place from (low_place to (first_place test 0 xs)))) →
        find test (drop from (take to xs)) ≡ option_and_then (slice_get (x ∷ xs)) (high_place (suc from) (low_place (suc to) (cond b (Some 0) (first_place test (0 + 1) xs))))
    by true once later =
        none_found test (drop from (take to xs)) (none_in_rest test from (take to xs) (none_in_first test to xs (turned (list_any test xs) once)))
        ∙ sym (first_left (x ∷ xs) from to)
    by false once later =
        later once ∙ sym (item_after x xs from to (first_place test 0 xs))
        ∙ ap (λ o. option_and_then (slice_get (x ∷ xs)) (high_place (suc from) (low_place (suc to) o))) (sym (shifted test 0 xs))
