-- Entries that are pushed one after another.
use Rattle.std.proofs.Common.{◌≡◌, ℕ, zero, suc, ◌+◌, ◌-◌, sym, ap, ◌∙◌, List, [], ◌∷◌, ◌++◌, arith}
use Rattle.std.specs.Prelude.{flat_map}
use Rattle.std.specs.List.{range_with_len}
use Rattle.std.proofs.lemmas.List.{append_assoc, append-nil}
use Rattle.search_plans.specs.declared.wish.Entry.{Entry}

-- two lists after another
pub joined : (old now new xs ys : List Entry) → now ≡ old ++ xs → new ≡ now ++ ys → new ≡ old ++ (xs ++ ys)
joined old now new xs ys first second = second ∙ ap (λ l. l ++ ys) first ∙ append_assoc old xs ys

-- three lists after another
pub joined_three : (old first second new xs ys zs : List Entry) → first ≡ old ++ xs → second ≡ first ++ ys → new ≡ second ++ zs
    → new ≡ old ++ (xs ++ (ys ++ zs))
joined_three old first second new xs ys zs one two three =
    joined old first new xs (ys ++ zs) one (joined first second new ys zs two three)

-- one entry, and then a list
pub after_one : (old now new xs : List Entry) (item is : Entry) → now ≡ old ++ item ∷ [] → item ≡ is → new ≡ now ++ xs → new ≡ old ++ is ∷ xs
after_one old now new xs item is one same rest = joined old now new (is ∷ []) xs (one ∙ ap (λ e. old ++ e ∷ []) same) rest

-- what is made of so many is made of so many less none
pub less_none : (f : ℕ → List Entry) (old new : List Entry) (n : ℕ) → new ≡ old ++ f (n - 0) → new ≡ old ++ f n
less_none f old new n is =
    let e : n - 0 ≡ n = omega arith in
    is ∙ ap (λ k. old ++ f k) e

number_more : (f : ℕ → List Entry) (a n j : ℕ) → a + n ≡ j → flat_map f (range_with_len a (suc n)) ≡ flat_map f (range_with_len a n) ++ f j
number_more f a zero j is = append-nil (f a) ∙ ap f (omega (arith, is))
number_more f a (suc n) j is =
    ap (λ xs. f a ++ xs) (number_more f (a + 1) n j (omega (arith, is)))
    ∙ sym (append_assoc (f a) (flat_map f (range_with_len (a + 1) n)) (f j))

to_number : (f : ℕ → List Entry) (k : ℕ) → flat_map f (range_with_len 0 (k + 1)) ≡ flat_map f (range_with_len 0 k) ++ f k
to_number f k =
    let e : k + 1 ≡ suc k = omega arith in
    let z : 0 + k ≡ k = omega arith in
    ap (λ n. flat_map f (range_with_len 0 n)) e ∙ number_more f 0 k k z

-- the entries of one number more
pub one_more : (f : ℕ → List Entry) (old now new : List Entry) (k : ℕ) → now ≡ old ++ flat_map f (range_with_len 0 k) → new ≡ now ++ f k
    → new ≡ old ++ flat_map f (range_with_len 0 (k + 1))
one_more f old now new k is more =
    more ∙ ap (λ l. l ++ f k) is ∙ append_assoc old (flat_map f (range_with_len 0 k)) (f k) ∙ ap (λ l. old ++ l) (sym (to_number f k))

-- the same of one entry for each number
pub one_entry : (f : ℕ → Entry) (old now new : List Entry) (item : Entry) (k : ℕ) → now ≡ old ++ flat_map (λ j. f j ∷ []) (range_with_len 0 k)
    → new ≡ now ++ item ∷ [] → item ≡ f k → new ≡ old ++ flat_map (λ j. f j ∷ []) (range_with_len 0 (k + 1))
one_entry f old now new item k is more same = one_more (λ j. f j ∷ []) old now new k is (more ∙ ap (λ x. now ++ x ∷ []) same)
