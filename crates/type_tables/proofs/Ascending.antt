-- Sorted numbers are those in ascending order.
use Rattle.std.proofs.Common.{◌≡◌, ◌∙◌, refl, sym, ap, ℕ, suc, ◌+◌, ◌<◌, Bool, true, false, cond, List, [], ◌∷◌, get_or, ℤ, int_lt, int_le, ◌≤ℤ◌, IsPermutation, IsSorted, arith}
use Rattle.std.specs.List.{sum_by}
use Rattle.std.specs.Ordering.{int_cmp, is_lt}
use Rattle.std.specs.declared.cmp.Ordering.TheVariants.{Less, Equal, Greater}
use Rattle.std.proofs.lemmas.Int.{ints}
use Rattle.std.proofs.lemmas.List.Sums.{sum_by-cons}
use Rattle.std.proofs.lemmas.List.Sorted.{sum_by-IsPermutation}
use Rattle.type_members.specs.type_heads.Bounds.{inserted, ascending}

-- Counts

abbrev picked : Bool → Bool → ℕ
picked below above = cond below 0 (cond above 0 1)

-- 1 if the numbers are the same
abbrev same : ℤ → ℤ → ℕ
same k n = picked (int_lt k n) (int_lt n k)

abbrev count : ℤ → List ℤ → ℕ
count k [] = 0
count k (n ∷ ns) = same k n + count k ns

self : (k : ℤ) → same k k ≡ 1
self k = by (int_lt k k) refl
  where
    by : (b : Bool) → int_lt k k ≡ b → picked b b ≡ 1
    by true e = absurd (omega (arith, ints, e))
    by false e = refl

count_sum : (k : ℤ) (ns : List ℤ) → sum_by (same k) ns ≡ count k ns
count_sum k [] = refl
count_sum k (n ∷ ns) = sum_by-cons (same k) n ns ∙ ap (λ c. same k n + c) (count_sum k ns)

swap_counts : (a b c : ℕ) → a + (b + c) ≡ b + (a + c)
swap_counts a b c = omega arith

count_inserted : (k n : ℤ) (ns : List ℤ) → count k (inserted n ns) ≡ same k n + count k ns
count_inserted k n [] = refl
count_inserted k n (m ∷ ms) = by (int_le n m) (count_inserted k n ms)
  where
    by : (b : Bool) → count k (inserted n ms) ≡ same k n + count k ms → count k (cond b (n ∷ m ∷ ms) (m ∷ inserted n ms)) ≡ same k n + (same k m + count k ms)
    by true rest = refl
    by false rest = ap (λ c. same k m + c) rest ∙ swap_counts (same k m) (same k n) (count k ms)

count_ascending : (k : ℤ) (ns : List ℤ) → count k (ascending ns) ≡ count k ns
count_ascending k [] = refl
count_ascending k (n ∷ ns) = count_inserted k n (ascending ns) ∙ ap (λ c. same k n + c) (count_ascending k ns)

-- Order

abbrev Above : ℤ → List ℤ → Type 0
Above x [] = Unit {0}
Above x (y ∷ ys) = (x ≤ℤ y) × Above x ys

abbrev Rising : List ℤ → Type 0
Rising [] = Unit {0}
Rising (x ∷ xs) = Above x xs × Rising xs

above_more : (x y : ℤ) (ys : List ℤ) → x ≤ℤ y → Above y ys → Above x ys
above_more x y [] le above = tt
above_more x y (z ∷ zs) le above = (omega (arith, ints, le, above.0), above_more x y zs le above.1)

above_inserted : (x n : ℤ) (ns : List ℤ) → x ≤ℤ n → Above x ns → Above x (inserted n ns)
above_inserted x n [] le above = (le, tt)
above_inserted x n (m ∷ ms) le above = by (int_le n m) (above_inserted x n ms le above.1)
  where
    by : (b : Bool) → Above x (inserted n ms) → Above x (cond b (n ∷ m ∷ ms) (m ∷ inserted n ms))
    by true rest = (le, above)
    by false rest = (above.0, rest)

rising_inserted : (n : ℤ) (ns : List ℤ) → Rising ns → Rising (inserted n ns)
rising_inserted n [] rising = (tt, tt)
rising_inserted n (m ∷ ms) rising = by (int_le n m) refl (rising_inserted n ms rising.1)
  where
    by : (b : Bool) → int_le n m ≡ b → Rising (inserted n ms) → Rising (cond b (n ∷ m ∷ ms) (m ∷ inserted n ms))
    by true e rest = let le : n ≤ℤ m = omega (arith, ints, e) in ((le, above_more n m ms le rising.0), rising)
    by false e rest = let le : m ≤ℤ n = omega (arith, ints, e) in (above_inserted m n ms le rising.0, rest)

rising_ascending : (ns : List ℤ) → Rising (ascending ns)
rising_ascending [] = tt
rising_ascending (n ∷ ns) = rising_inserted n (ascending ns) (rising_ascending ns)

not_below : (y z : ℤ) → is_lt (int_cmp z y) ≡ false → y ≤ℤ z
not_below y z = by (int_lt z y) refl
  where
    by : (b : Bool) → int_lt z y ≡ b → is_lt (cond b Less (cond (int_lt y z) Greater Equal)) ≡ false → y ≤ℤ z
    by true e h = let never : true ≡ false = h in cc
    by false e h = omega (arith, ints, e)

rising_sorted : (ys : List ℤ) → IsSorted int_cmp ys → Rising ys
rising_sorted [] sorted = tt
rising_sorted (y ∷ []) sorted = (tt, tt)
rising_sorted (y ∷ z ∷ zs) sorted =
    let le : y ≤ℤ z = not_below y z (sorted 0 y (omega arith) (omega arith)) in
    let next : (k : ℕ) → k + 1 ≡ suc k = λ k. omega arith in
    let rest : Rising (z ∷ zs) = rising_sorted (z ∷ zs) (λ k d from less.
    ap (λ n. is_lt (int_cmp (get_or (y ∷ z ∷ zs) n d) (get_or (z ∷ zs) k d))) (sym (next (k + 1)))
    ∙ ap (λ n. is_lt (int_cmp (get_or (y ∷ z ∷ zs) (k + 1 + 1) d) (get_or (y ∷ z ∷ zs) n d))) (sym (next k))
    ∙ sorted (k + 1) d (omega arith) (omega (arith, less))) in
    ((le, above_more y z zs le rest.0), rest)

-- Two such lists with the same counts are equal

counted_above : (k y : ℤ) (ys : List ℤ) → 0 < count k ys → Above y ys → y ≤ℤ k
counted_above k y [] some above = absurd (omega (arith, some))
counted_above k y (z ∷ zs) some above =
    by (int_lt k z) (int_lt z k) some (λ e f. omega (arith, ints, e, f, above.0)) (λ more. counted_above k y zs more above.1)
  where
    by : (a b : Bool) → 0 < picked a b + count k zs → (a ≡ false → b ≡ false → y ≤ℤ k) → (0 < count k zs → y ≤ℤ k) → y ≤ℤ k
    by true b some here later = later (omega (arith, some))
    by false true some here later = later (omega (arith, some))
    by false false some here later = here refl refl

head_below : (x y : ℤ) (xs ys : List ℤ) → Above y ys → count x (x ∷ xs) ≡ count x (y ∷ ys) → y ≤ℤ x
head_below x y xs ys above e =
    let some : 0 < count x (y ∷ ys) = omega (arith, e, self x) in
    let le : y ≤ℤ y = omega (arith, ints) in
    counted_above x y (y ∷ ys) some (le, above)

unique : (xs ys : List ℤ) → Rising xs → Rising ys → ((k : ℤ) → count k xs ≡ count k ys) → xs ≡ ys
unique [] [] r s e = refl
unique [] (y ∷ ys) r s e = absurd (omega (arith, e y, self y))
unique (x ∷ xs) [] r s e = absurd (omega (arith, e x, self x))
unique (x ∷ xs) (y ∷ ys) r s e =
    let one : y ≤ℤ x = head_below x y xs ys s.0 (e x) in
    let other : x ≤ℤ y = head_below y x ys xs r.0 (sym (e y)) in
    let head : x ≡ y = omega (arith, ints, one, other) in
    let tails : (k : ℤ) → count k xs ≡ count k ys = λ k. (let heads : same k x ≡ same k y = ap (same k) head in omega (arith, e k, heads)) in
    ap (λ z. z ∷ xs) head ∙ ap (λ zs. y ∷ zs) (unique xs ys r.1 s.1 tails)

pub sorted_is : (ns ys : List ℤ) → IsPermutation ns ys → IsSorted int_cmp ys → ys ≡ ascending ns
sorted_is ns ys moved sorted =
    unique ys (ascending ns) (rising_sorted ys sorted) (rising_ascending ns)
    (λ k. sym (count_sum k ys) ∙ sum_by-IsPermutation (same k) ns ys moved ∙ count_sum k ns ∙ sym (count_ascending k ns))
