-- Marked numbers as one comes and goes.
use Rattle.std.proofs.Common.{◌≡◌, refl, sym, ap, ◌∙◌, subst, ⊎_elim, ℕ, ◌<◌, ◌≤◌, Bool, true, false, ◌||◌, eqb, List, [], ◌∷◌, ◌++◌, length, get_or, set, arith, length-append}
use Rattle.std.proofs.lemmas.Bool.{cases_eq, eq-eqb, ne_eqb}
use Rattle.std.proofs.lemmas.List.{length-set, get_or-set_same, get_or-set_other}
use Rattle.std.proofs.lemmas.List.Folds.{list_any-append}
use Rattle.wake_ring.specs.Queue.{is_in}
use Rattle.wake_ring.specs.Order.{Lacks, IsDistinct, AllBelow}
use Rattle.wake_ring.proofs.Members.{lacks_from, not_in, IsDistinct-push, AllBelow-push, few_below}
use Rattle.seeded_search.specs.MarkList.{IsMarkList}

or_false : (b : Bool) → b || false ≡ b
or_false true = refl
or_false false = refl

or_true : (b : Bool) → b || true ≡ true
or_true true = refl
or_true false = refl

-- what is in a list with one number more
in_more : (k i : ℕ) (xs : List ℕ) → is_in k (xs ++ i ∷ []) ≡ is_in k xs || (eqb k i || false)
in_more k i xs = list_any-append (eqb k) xs (i ∷ [])

Lacks-front : (c i : ℕ) (xs : List ℕ) → Lacks c (xs ++ i ∷ []) → Lacks c xs × (c ≡ i → ⊥)
Lacks-front c i [] lacks = (tt, lacks.0)
Lacks-front c i (b ∷ xs) lacks = let front = Lacks-front c i xs lacks.1 in ((lacks.0, front.0), front.1)

IsDistinct-front : (i : ℕ) (xs : List ℕ) → IsDistinct (xs ++ i ∷ []) → IsDistinct xs × Lacks i xs
IsDistinct-front i [] distinct = (tt, tt)
IsDistinct-front i (b ∷ xs) distinct =
    let rest = IsDistinct-front i xs distinct.1 in
    let first = Lacks-front b i xs distinct.0 in
    ((first.0, rest.0), ((λ e. first.1 (sym e)), rest.1))

AllBelow-front : (n i : ℕ) (xs : List ℕ) → AllBelow n (xs ++ i ∷ []) → AllBelow n xs × (i < n)
AllBelow-front n i [] below = (tt, below.0)
AllBelow-front n i (b ∷ xs) below = let rest = AllBelow-front n i xs below.1 in ((below.0, rest.0), rest.1)

module _ (listed : List ℕ) (room : ℕ) (flags : List Bool) (m : IsMarkList listed room flags) where
  pub marks_few : length listed ≤ length flags
  marks_few = few_below (length flags) listed m.distinct m.below

  -- one more
  module _ (i : ℕ) (below : i < length flags) (out : is_in i listed ≡ false) where
    pub mark_room : length listed < room
    mark_room =
        let few = few_below (length flags) (listed ++ i ∷ []) (IsDistinct-push i listed (lacks_from i listed out) m.distinct) (AllBelow-push (length flags) i listed below m.below) in
        omega (arith, few, length-append listed (i ∷ []), m.long)

    pub mark_more : (listed' : List ℕ) (room' : ℕ) → listed' ≡ listed ++ i ∷ [] → room' ≡ room → IsMarkList listed' room' (set flags i true)
    mark_more listed' room' is same = record {
      long = omega (arith, m.long, length-set flags i true, same);
      distinct = subst IsDistinct (sym is) (IsDistinct-push i listed (lacks_from i listed out) m.distinct);
      below = subst (λ (n : ℕ). AllBelow n listed') (sym (length-set flags i true)) (subst (AllBelow (length flags)) (sym is) (AllBelow-push (length flags) i listed below m.below));
      told = λ k less. subst (λ (l : List ℕ). get_or (set flags i true) k false ≡ is_in k l) (sym is) (told_more k (omega (arith, less, length-set flags i true)));
    }
      where
        told_more : (k : ℕ) → k < length flags → get_or (set flags i true) k false ≡ is_in k (listed ++ i ∷ [])
        told_more k less = ⊎_elim
            (λ (e : k ≡ i). ap (λ j. get_or (set flags i true) j false) e ∙ (get_or-set_same flags i true false below
            ∙ sym (in_more k i listed ∙ (ap (λ b. is_in k listed || (b || false)) (eq-eqb k i e) ∙ or_true (is_in k listed)))))
            (λ n. get_or-set_other flags i k true false n ∙ (m.told k less
            ∙ sym (in_more k i listed ∙ (ap (λ b. is_in k listed || (b || false)) (ne_eqb k i n) ∙ or_false (is_in k listed)))))
            (cases_eq k i)

  -- one less
  module _ (i : ℕ) (rest : List ℕ) (is : listed ≡ rest ++ i ∷ []) where
    pub last_below : i < length flags
    last_below = (AllBelow-front (length flags) i rest (subst (AllBelow (length flags)) is m.below)).1

    pub mark_less : (room' : ℕ) → room' ≡ room → IsMarkList rest room' (set flags i false)
    mark_less room' same = record {
      long = omega (arith, m.long, length-set flags i false, same);
      distinct = apart.0;
      below = subst (λ (n : ℕ). AllBelow n rest) (sym (length-set flags i false)) (AllBelow-front (length flags) i rest (subst (AllBelow (length flags)) is m.below)).0;
      told = λ k less. told_less k (omega (arith, less, length-set flags i false));
    }
      where
        apart : IsDistinct rest × Lacks i rest
        apart = IsDistinct-front i rest (subst IsDistinct is m.distinct)

        told_less : (k : ℕ) → k < length flags → get_or (set flags i false) k false ≡ is_in k rest
        told_less k less = ⊎_elim
            (λ (e : k ≡ i). ap (λ j. get_or (set flags i false) j false) e ∙ (get_or-set_same flags i false false last_below ∙ sym (ap (λ j. is_in j rest) e ∙ not_in i rest apart.1)))
            (λ n. get_or-set_other flags i k false false n ∙ (m.told k less
            ∙ (ap (is_in k) is ∙ (in_more k i rest ∙ (ap (λ b. is_in k rest || (b || false)) (ne_eqb k i n) ∙ or_false (is_in k rest))))))
            (cases_eq k i)
