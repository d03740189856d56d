-- The numbers of a list: which are there, that none is there twice, and that each is below a bound.
use Rattle.std.proofs.Common.{◌≡◌, ◌≢◌, ℕ, zero, suc, ◌<◌, ◌≤◌, true, false, eqb, List, [], ◌∷◌, ◌++◌, length, All, AllPairs, refl, sym, ap, subst, ◌∙◌, inl, inr, arith}
use Rattle.std.proofs.lemmas.Bool.{cases_eq, eq-eqb, ne_eqb, eqb-true, eqb-false, or_parts, or_from, or_cases, or_left, or_right, false≢true}
use Rattle.std.proofs.lemmas.Bool.Decides.{Decides-eqb}
use Rattle.std.proofs.lemmas.List.Kept.{AllPairs-cons}
use Rattle.std.proofs.lemmas.Map.Made.{IsDistinct-from_AllPairs}
use Rattle.std.proofs.lemmas.Map.Steps.{length-le_from_distinct_below}
use Rattle.wake_ring.specs.Queue.{is_in, without}
use Rattle.wake_ring.specs.Order.{Lacks, IsDistinct, AllBelow}
use Rattle.wake_ring.proofs.Order.{without_first, without_other, without_absent, in_rest}

-- ---- a number that is there, and one that is not
pub lacks_from : (i : ℕ) (xs : List ℕ) → is_in i xs ≡ false → Lacks i xs
lacks_from i [] e = tt
lacks_from i (b ∷ xs) e =
    let parts = or_parts (eqb i b) (is_in i xs) e in (eqb-false i b parts.0, lacks_from i xs parts.1)

pub not_in : (i : ℕ) (xs : List ℕ) → Lacks i xs → is_in i xs ≡ false
not_in i [] lacks = refl
not_in i (b ∷ xs) lacks = or_from (eqb i b) (is_in i xs) (ne_eqb i b lacks.0) (not_in i xs lacks.1)

pub differs : (a x : ℕ) (xs : List ℕ) → Lacks a xs → is_in x xs ≡ true → x ≢ a
differs a x xs lacks here e = false≢true (sym (not_in a xs lacks) ∙ ap (λ k. is_in k xs) (sym e) ∙ here)

pub in_first : (b : ℕ) (xs : List ℕ) → is_in b (b ∷ xs) ≡ true
in_first b xs = or_left (eqb b b) (is_in b xs) (eq-eqb b b refl)

pub in_later : (x b : ℕ) (xs : List ℕ) → is_in x xs ≡ true → is_in x (b ∷ xs) ≡ true
in_later x b xs here = or_right (eqb x b) (is_in x xs) here

pub in_below : (n i : ℕ) (xs : List ℕ) → AllBelow n xs → is_in i xs ≡ true → i < n
in_below n i [] below here = cc
in_below n i (b ∷ xs) below here = elim (or_cases (eqb i b) (is_in i xs) here) [
  | inl e ↦ omega (arith, eqb-true i b e, below.0)
  | inr e ↦ in_below n i xs below.1 e
]

pub end_lacks : (n : ℕ) (xs : List ℕ) → AllBelow n xs → Lacks n xs
end_lacks n [] below = tt
end_lacks n (b ∷ xs) below = (omega (arith, below.0), end_lacks n xs below.1)

-- ---- one more number at the end
pub Lacks-push : (c i : ℕ) (xs : List ℕ) → c ≢ i → Lacks c xs → Lacks c (xs ++ i ∷ [])
Lacks-push c i [] ne lacks = (ne, tt)
Lacks-push c i (b ∷ xs) ne lacks = (lacks.0, Lacks-push c i xs ne lacks.1)

pub IsDistinct-push : (i : ℕ) (xs : List ℕ) → Lacks i xs → IsDistinct xs → IsDistinct (xs ++ i ∷ [])
IsDistinct-push i [] lacks distinct = (tt, tt)
IsDistinct-push i (b ∷ xs) lacks distinct =
    (Lacks-push b i xs (λ e. lacks.0 (sym e)) distinct.0, IsDistinct-push i xs lacks.1 distinct.1)

pub AllBelow-push : (n i : ℕ) (xs : List ℕ) → i < n → AllBelow n xs → AllBelow n (xs ++ i ∷ [])
AllBelow-push n i [] lt below = (lt, tt)
AllBelow-push n i (b ∷ xs) lt below = (below.0, AllBelow-push n i xs lt below.1)

-- ---- a number left out
same_list : (P : List ℕ → Type 0) (xs ys : List ℕ) → xs ≡ ys → P ys → P xs
same_list P xs ys e p = subst P (sym e) p

pub Lacks-without : (c i : ℕ) (xs : List ℕ) → Lacks c xs → Lacks c (without i xs)
Lacks-without c i [] lacks = tt
Lacks-without c i (b ∷ xs) lacks = elim (cases_eq i b) [
  | inl e ↦ same_list (Lacks c) (without i (b ∷ xs)) (without i xs) (ap (λ k. without i (k ∷ xs)) (sym e) ∙ without_first i xs) (Lacks-without c i xs lacks.1)
  | inr ne ↦ same_list (Lacks c) (without i (b ∷ xs)) (b ∷ without i xs) (without_other i b xs ne) (lacks.0, Lacks-without c i xs lacks.1)
]

pub IsDistinct-without : (i : ℕ) (xs : List ℕ) → IsDistinct xs → IsDistinct (without i xs)
IsDistinct-without i [] distinct = tt
IsDistinct-without i (b ∷ xs) distinct = elim (cases_eq i b) [
  | inl e ↦ same_list IsDistinct (without i (b ∷ xs)) (without i xs) (ap (λ k. without i (k ∷ xs)) (sym e) ∙ without_first i xs) (IsDistinct-without i xs distinct.1)
  | inr ne ↦ same_list IsDistinct (without i (b ∷ xs)) (b ∷ without i xs) (without_other i b xs ne) (Lacks-without b i xs distinct.0, IsDistinct-without i xs distinct.1)
]

pub AllBelow-without : (n i : ℕ) (xs : List ℕ) → AllBelow n xs → AllBelow n (without i xs)
AllBelow-without n i [] below = tt
AllBelow-without n i (b ∷ xs) below = elim (cases_eq i b) [
  | inl e ↦ same_list (AllBelow n) (without i (b ∷ xs)) (without i xs) (ap (λ k. without i (k ∷ xs)) (sym e) ∙ without_first i xs) (AllBelow-without n i xs below.1)
  | inr ne ↦ same_list (AllBelow n) (without i (b ∷ xs)) (b ∷ without i xs) (without_other i b xs ne) (below.0, AllBelow-without n i xs below.1)
]

pub length-without : (i : ℕ) (xs : List ℕ) → is_in i xs ≡ true → IsDistinct xs → suc (length (without i xs)) ≡ length xs
length-without i [] here distinct = cc
length-without i (b ∷ xs) here distinct = elim (cases_eq i b) [
  | inl e ↦ ap (λ l. suc (length l)) (ap (λ k. without k (b ∷ xs)) e ∙ without_first b xs ∙ without_absent b xs distinct.0)
  | inr ne ↦ ap (λ l. suc (length l)) (without_other i b xs ne) ∙ ap suc (length-without i xs (in_rest i b xs ne here) distinct.1)
]

-- ---- the same, in the words of a contract
pub all_differ : (c : ℕ) (xs : List ℕ) → Lacks c xs → All (λ y. c ≢ y) xs
all_differ c [] lacks k d lt = absurd (omega arith)
all_differ c (b ∷ xs) lacks zero d lt = lacks.0
all_differ c (b ∷ xs) lacks (suc k) d lt = all_differ c xs lacks.1 k d (omega arith)

pub all_below : (n : ℕ) (xs : List ℕ) → AllBelow n xs → All (λ y. y < n) xs
all_below n [] below k d lt = absurd (omega arith)
all_below n (b ∷ xs) below zero d lt = below.0
all_below n (b ∷ xs) below (suc k) d lt = all_below n xs below.1 k d (omega arith)

pub pairs_differ : (xs : List ℕ) → IsDistinct xs → AllPairs (λ x y. x ≢ y) xs
pairs_differ [] distinct = λ i j d lt end. absurd (omega arith)
pairs_differ (b ∷ xs) distinct = AllPairs-cons (λ x y. x ≢ y) b xs (all_differ b xs distinct.0) (pairs_differ xs distinct.1)

-- distinct numbers below n are at most n
pub few_below : (n : ℕ) (xs : List ℕ) → IsDistinct xs → AllBelow n xs → length xs ≤ n
few_below n xs distinct below =
    length-le_from_distinct_below xs n (IsDistinct-from_AllPairs Decides-eqb xs (pairs_differ xs distinct)) (λ q here. in_below n q xs below here)
