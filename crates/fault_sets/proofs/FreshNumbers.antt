-- Numbers that weren't met before.
use Rattle.std.proofs.Common.{◌≡◌, ◌∙◌, refl, sym, ap, ℕ, ◌+◌, ◌<◌, Bool, true, false, cond, ◌||◌, List, [], ◌∷◌, ◌++◌, nat_eq, take, length, get_or, append_assoc, append-nil, subst, arith}
use Rattle.std.proofs.lemmas.Bool.Decides.{nat_tests}
use Rattle.std.proofs.lemmas.List.{take_more}
use Rattle.std.proofs.lemmas.List.Folds.{list_any-append}
use Rattle.type_heads.specs.Members.{has}
use Rattle.type_heads.specs.Cycles.{fresh}
use Rattle.fault_sets.specs.Reaching.{AddsFresh, HasNumbers}

-- what is fresh depends on what was met, not on its order
pub fresh_same : (seen seen' xs : List ℕ) → HasNumbers seen seen' → fresh seen xs ≡ fresh seen' xs
fresh_same seen seen' [] same = refl
fresh_same seen seen' (x ∷ xs) same =
    ap (λ b. cond b (fresh seen xs) (x ∷ fresh (x ∷ seen) xs)) (same x)
    ∙ ap (λ ys. cond (has x seen') ys (x ∷ fresh (x ∷ seen) xs)) (fresh_same seen seen' xs same)
    ∙ ap (λ ys. cond (has x seen') (fresh seen' xs) (x ∷ ys)) (fresh_same (x ∷ seen) (x ∷ seen') xs (λ n. ap (λ b. nat_eq n x || b) (same n)))

or_moved : (a b c : Bool) → (a || (b || c)) ≡ (b || (a || c))
or_moved true true c = refl
or_moved true false c = refl
or_moved false true c = refl
or_moved false false c = refl

or_last : (a b : Bool) → (a || b) ≡ (b || (a || false))
or_last true true = refl
or_last true false = refl
or_last false true = refl
or_last false false = refl

pub nat_eq_is : (n x : ℕ) → nat_eq n x ≡ true → n ≡ x
nat_eq_is n x h = grind (arith, nat_tests)

-- a number may be moved into the middle
moved : (x : ℕ) (seen ys : List ℕ) → HasNumbers ((x ∷ seen) ++ ys) (seen ++ x ∷ ys)
moved x seen ys n = ap (λ b. nat_eq n x || b) (list_any-append (nat_eq n) seen ys) ∙ or_moved (nat_eq n x) (has n seen) (has n ys) ∙ sym (list_any-append (nat_eq n) seen (x ∷ ys))

pub fresh_joined : (seen xs ys : List ℕ) → fresh seen (xs ++ ys) ≡ fresh seen xs ++ fresh (seen ++ fresh seen xs) ys
fresh_joined seen [] ys = ap (λ zs. fresh zs ys) (sym (append-nil seen))
fresh_joined seen (x ∷ xs) ys = by (has x seen) (fresh_joined seen xs ys) (fresh_joined (x ∷ seen) xs ys)
  where
    by : (b : Bool) → fresh seen (xs ++ ys) ≡ fresh seen xs ++ fresh (seen ++ fresh seen xs) ys →
        fresh (x ∷ seen) (xs ++ ys) ≡ fresh (x ∷ seen) xs ++ fresh ((x ∷ seen) ++ fresh (x ∷ seen) xs) ys →
        cond b (fresh seen (xs ++ ys)) (x ∷ fresh (x ∷ seen) (xs ++ ys))
        ≡ cond b (fresh seen xs) (x ∷ fresh (x ∷ seen) xs) ++ fresh (seen ++ cond b (fresh seen xs) (x ∷ fresh (x ∷ seen) xs)) ys
    by true h k = h
    by false h k = ap (λ zs. x ∷ zs) (k ∙ ap (λ zs. fresh (x ∷ seen) xs ++ zs)
        (fresh_same ((x ∷ seen) ++ fresh (x ∷ seen) xs) (seen ++ x ∷ fresh (x ∷ seen) xs) ys (moved x seen (fresh (x ∷ seen) xs))))

pub none_fresh : (met into : List ℕ) → AddsFresh met into [] met into
none_fresh met into seen same = (sym (append-nil into), λ n. same n ∙ ap (has n) (sym (append-nil seen)))

pub then_fresh : (met met' met'' into into' into'' xs ys : List ℕ) → AddsFresh met into xs met' into' → AddsFresh met' into' ys met'' into'' → AddsFresh met into (xs ++ ys) met'' into''
then_fresh met met' met'' into into' into'' xs ys one other seen same =
    let a = one seen same in
    let b = other (seen ++ fresh seen xs) a.1 in
    let e : fresh seen xs ++ fresh (seen ++ fresh seen xs) ys ≡ fresh seen (xs ++ ys) = sym (fresh_joined seen xs ys) in (
      b.0 ∙ ap (λ zs. zs ++ fresh (seen ++ fresh seen xs) ys) a.0 ∙ append_assoc into (fresh seen xs) (fresh (seen ++ fresh seen xs) ys) ∙ ap (λ zs. into ++ zs) e,
      λ n. b.1 n ∙ ap (has n) (append_assoc seen (fresh seen xs) (fresh (seen ++ fresh seen xs) ys) ∙ ap (λ zs. seen ++ zs) e),
    )

-- a number was met before
pub one_met : (met met' into : List ℕ) (x : ℕ) → true ≡ has x met → ((n : ℕ) → has n met' ≡ (nat_eq n x || has n met)) → AddsFresh met into (x ∷ []) met' into
one_met met met' into x there more seen same =
    let e : fresh seen (x ∷ []) ≡ [] = ap (λ b. cond b (fresh seen []) (x ∷ [])) (sym (there ∙ same x)) in (
      sym (ap (λ zs. into ++ zs) e ∙ append-nil into),
      λ n. more n ∙ by n (nat_eq n x) refl ∙ same n ∙ ap (has n) (sym (ap (λ zs. seen ++ zs) e ∙ append-nil seen)),
    )
  where
    by : (n : ℕ) (b : Bool) → nat_eq n x ≡ b → (b || has n met) ≡ has n met
    by n true h = there ∙ ap (λ k. has k met) (sym (nat_eq_is n x h))
    by n false h = refl

-- a number wasn't
pub one_new : (met met' into : List ℕ) (x : ℕ) → false ≡ has x met → ((n : ℕ) → has n met' ≡ (nat_eq n x || has n met)) → AddsFresh met into (x ∷ []) met' (into ++ x ∷ [])
one_new met met' into x new more seen same =
    let e : fresh seen (x ∷ []) ≡ x ∷ [] = ap (λ b. cond b (fresh seen []) (x ∷ [])) (sym (new ∙ same x)) in (
      ap (λ zs. into ++ zs) (sym e),
      λ n. more n ∙ ap (λ b. nat_eq n x || b) (same n) ∙ or_last (nat_eq n x) (has n seen) ∙ sym (list_any-append (nat_eq n) seen (x ∷ [])) ∙ ap (λ zs. has n (seen ++ zs)) (sym e),
    )

pub next_fresh : (met met' met'' into into' into'' xs : List ℕ) (i x : ℕ) → i < length xs → x ≡ get_or xs i x → AddsFresh met' into' (x ∷ []) met'' into'' →
    AddsFresh met into (take i xs) met' into' → AddsFresh met into (take (i + 1) xs) met'' into''
next_fresh met met' met'' into into' into'' xs i x less is one before =
    subst (λ zs. AddsFresh met into zs met'' into'') (ap (λ y. take i xs ++ y ∷ []) is ∙ sym (take_more xs i x less))
    (then_fresh met met' met'' into into' into'' (take i xs) (x ∷ []) before one)
