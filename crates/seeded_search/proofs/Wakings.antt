-- What waking a list of rules one by one leaves in a queue.
use Rattle.std.proofs.Common.{◌≡◌, refl, sym, ap, ◌∙◌, ◌⊎◌, inl, inr, ℕ, zero, suc, ◌+◌, ◌<◌, Bool, true, false, ◌||◌, eqb, List, [], ◌∷◌, ◌++◌, length, get_or, take, arith}
use Rattle.std.proofs.lemmas.Bool.{false≢true, or_cases, or_parts, eq-eqb, eqb-true}
use Rattle.std.proofs.lemmas.List.{take_more}
use Rattle.std.proofs.lemmas.List.Folds.{list_any-append}
use Rattle.wake_ring.specs.Queue.{is_in}
use Rattle.wake_ring.specs.Order.{AllBelow}
use Rattle.seeded_search.specs.Waking.{IsWokenFrom}

pub woken_none : (marks queue : List ℕ) → IsWokenFrom [] marks queue queue
woken_none marks queue = record { kept = λ k out. out; over = λ k here out. absurd (false≢true here) }

-- a number more waits
pub woken_one : (number : ℕ) (marks queue later : List ℕ) → ((k : ℕ) → is_in k later ≡ is_in k (number ∷ queue)) → IsWokenFrom (number ∷ []) marks queue later
woken_one number marks queue later added = record {
  kept = λ k out. (or_parts (eqb k number) (is_in k queue) (sym (added k) ∙ out)).1;
  over = λ k here out. absurd (false≢true (sym (or_parts (eqb k number) (is_in k queue) (sym (added k) ∙ out)).0 ∙ alone (eqb k number) here));
}
  where
    alone : (b : Bool) → b || false ≡ true → b ≡ true
    alone true e = refl
    alone false e = e

pub woken_more : (xs marks q0 q1 q2 : List ℕ) (i x : ℕ) → i < length xs → get_or xs i 0 ≡ x → IsWokenFrom (take i xs) marks q0 q1 → IsWokenFrom (x ∷ []) marks q1 q2 → IsWokenFrom (take (i + 1) xs) marks q0 q2
woken_more xs marks q0 q1 q2 i x less is first second = record {
  kept = λ k out. first.kept k (second.kept k out);
  over = λ k here out. by_part k out (or_cases (is_in k (take i xs)) (is_in k (x ∷ [])) (sym (list_any-append (eqb k) (take i xs) (x ∷ [])) ∙ (ap (is_in k) (sym longer) ∙ here)));
}
  where
    longer : take (i + 1) xs ≡ take i xs ++ x ∷ []
    longer = take_more xs i 0 less ∙ ap (λ y. take i xs ++ y ∷ []) is

    by_part : (k : ℕ) → is_in k q2 ≡ false → (is_in k (take i xs) ≡ true) ⊎ (is_in k (x ∷ []) ≡ true) → is_in k marks ≡ true
    by_part k out (inl before) = first.over k before (second.kept k out)
    by_part k out (inr here) = second.over k here out

pub below_at : (n : ℕ) (xs : List ℕ) (i : ℕ) → AllBelow n xs → i < length xs → get_or xs i 0 < n
below_at n [] i below less = absurd (omega arith)
below_at n (x ∷ xs) zero below less = below.0
below_at n (x ∷ xs) (suc i) below less = below_at n xs i below.1 (omega arith)

-- a list of a list of lists, whatever stands for one past the end
pub list_at : {A : Type 0} (xs : List A) (i : ℕ) (d e : A) → i < length xs → get_or xs i d ≡ get_or xs i e
list_at [] i d e less = absurd (omega arith)
list_at (x ∷ xs) zero d e less = refl
list_at (x ∷ xs) (suc i) d e less = list_at xs i d e (omega arith)

-- what stands in a list is in it
pub in_at : (xs : List ℕ) (i : ℕ) → i < length xs → is_in (get_or xs i 0) xs ≡ true
in_at [] i less = absurd (omega arith)
in_at (x ∷ xs) zero less = first (eqb x x) (is_in x xs) (eq-eqb x x refl)
  where
    first : (a b : Bool) → a ≡ true → a || b ≡ true
    first true b e = refl
    first false b e = absurd (false≢true e)
in_at (x ∷ xs) (suc i) less = later (eqb (get_or xs i 0) x) (is_in (get_or xs i 0) xs) (in_at xs i (omega arith))
  where
    later : (a b : Bool) → b ≡ true → a || b ≡ true
    later true b e = refl
    later false b e = e

-- what is in a list with one number more
pub in_longer : (xs : List ℕ) (i x k : ℕ) → i < length xs → get_or xs i 0 ≡ x → is_in k (take (i + 1) xs) ≡ true → (is_in k (take i xs) ≡ true) ⊎ (k ≡ x)
in_longer xs i x k less is here = elim (or_cases (is_in k (take i xs)) (is_in k (x ∷ [])) (sym (list_any-append (eqb k) (take i xs) (x ∷ [])) ∙ (ap (is_in k) (sym longer) ∙ here))) [
  | inl before ↦ inl before
  | inr last ↦ elim (or_cases (eqb k x) false last) [ inl e ↦ inr (eqb-true k x e) | inr e ↦ absurd (false≢true e) ]
]
  where
    longer : take (i + 1) xs ≡ take i xs ++ x ∷ []
    longer = take_more xs i 0 less ∙ ap (λ y. take i xs ++ y ∷ []) is
