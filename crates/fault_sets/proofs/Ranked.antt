-- If no step leads to a higher rank, and those from a type all lead to lower ones, then steps don't lead back to it.
use Rattle.std.proofs.Common.{◌≡◌, ◌∙◌, refl, sym, ap, ℕ, zero, suc, ◌+◌, ◌<◌, ◌&&◌, ◌||◌, Bool, true, false, not, cond, List, [], ◌∷◌, ◌++◌, length, nat_eq, flat_map, arith, true≢false}
use Rattle.std.specs.Prelude.{nat_lt, slice_index_or}
use Rattle.std.specs.List.{list_all}
use Rattle.std.proofs.lemmas.Bool.Decides.{nat_tests}
use Rattle.std.proofs.lemmas.List.Folds.{list_all-append}
use Rattle.type_heads.specs.Members.{has}
use Rattle.type_heads.specs.Cycles.{fresh, reached, returns}
use Rattle.fault_sets.specs.Ranking.{rank, is_level, level_from, falls, shows, AreNext, HasLevels, IsShown}
use Rattle.fault_sets.specs.declared.returning.Ranking.{Ranking}

pub both : (a b : Bool) → a ≡ true → b ≡ true → (a && b) ≡ true
both true true h k = refl
both true false h k = k
both false b h k = h

pub left_of : (a b : Bool) → (a && b) ≡ true → a ≡ true
left_of true b h = refl
left_of false b h = h

pub right_of : (a b : Bool) → (a && b) ≡ true → b ≡ true
right_of true b h = h
right_of false b h = absurd (true≢false (sym h))

-- What passes a test, if steps keep to what passes it

module _ (low : ℕ → Bool) where
  all_joined : (xs ys : List ℕ) → list_all low xs ≡ true → list_all low ys ≡ true → list_all low (xs ++ ys) ≡ true
  all_joined xs ys h k = list_all-append low xs ys ∙ both (list_all low xs) (list_all low ys) h k

  pub all_fresh : (seen xs : List ℕ) → list_all low xs ≡ true → list_all low (fresh seen xs) ≡ true
  all_fresh seen [] h = refl
  all_fresh seen (x ∷ xs) h = by (has x seen) (all_fresh seen xs (right_of (low x) (list_all low xs) h))
      (both (low x) (list_all low (fresh (x ∷ seen) xs)) (left_of (low x) (list_all low xs) h) (all_fresh (x ∷ seen) xs (right_of (low x) (list_all low xs) h)))
    where
      by : (b : Bool) → list_all low (fresh seen xs) ≡ true → list_all low (x ∷ fresh (x ∷ seen) xs) ≡ true → list_all low (cond b (fresh seen xs) (x ∷ fresh (x ∷ seen) xs)) ≡ true
      by true h k = h
      by false h k = k

  all_next : (step : ℕ → List ℕ) → ((x : ℕ) → low x ≡ true → list_all low (step x) ≡ true) → (xs : List ℕ) → list_all low xs ≡ true → list_all low (flat_map step xs) ≡ true
  all_next step stays [] h = refl
  all_next step stays (x ∷ xs) h =
      all_joined (step x) (flat_map step xs) (stays x (left_of (low x) (list_all low xs) h)) (all_next step stays xs (right_of (low x) (list_all low xs) h))

  pub all_reached : (step : ℕ → List ℕ) → ((x : ℕ) → low x ≡ true → list_all low (step x) ≡ true) → (n : ℕ) (found new : List ℕ) → list_all low found ≡ true → list_all low new ≡ true →
      list_all low (reached n step found new) ≡ true
  all_reached step stays zero found new h k = h
  all_reached step stays (suc n) found [] h k = h
  all_reached step stays (suc n) found (x ∷ xs) h k =
      let more : list_all low (found ++ x ∷ xs) ≡ true = all_joined found (x ∷ xs) h k in
      all_reached step stays n (found ++ x ∷ xs) (fresh (found ++ x ∷ xs) (flat_map step (x ∷ xs))) more
      (all_fresh (found ++ x ∷ xs) (flat_map step (x ∷ xs)) (all_next step stays (x ∷ xs) k))

  not_among : (t : ℕ) (xs : List ℕ) → low t ≡ false → list_all low xs ≡ true → has t xs ≡ false
  not_among t [] h k = refl
  not_among t (x ∷ xs) h k = by (nat_eq t x) refl (not_among t xs h (right_of (low x) (list_all low xs) k))
    where
      same : nat_eq t x ≡ true → t ≡ x
      same e = grind (arith, nat_tests)

      by : (b : Bool) → nat_eq t x ≡ b → has t xs ≡ false → (b || has t xs) ≡ false
      by true e others = absurd (true≢false (sym (left_of (low x) (list_all low xs) k) ∙ ap low (sym (same e)) ∙ h))
      by false e others = others

  -- steps stay within the test, and the type itself is outside
  pub never_back : (step : ℕ → List ℕ) → ((x : ℕ) → low x ≡ true → list_all low (step x) ≡ true) → (count t : ℕ) → list_all low (step t) ≡ true → low t ≡ false → returns count step t ≡ false
  never_back step stays count t start out =
      not_among t (reached (suc count) step [] (fresh [] (step t))) out (all_reached step stays (suc count) [] (fresh [] (step t)) refl (all_fresh [] (step t) start))

-- By ranks

-- one of the types, of a rank below another
abbrev pub is_below : ℕ → List ℕ → ℕ → ℕ → Bool
is_below count ranks r x = nat_lt x count && nat_lt (rank ranks x) r

level_at : (count : ℕ) (ranks : List ℕ) (t n m : ℕ) (next : List (List ℕ)) → level_from count ranks t next ≡ true → n < length next → m ≡ t + n →
    list_all (is_level count ranks m) (slice_index_or next n []) ≡ true
level_at count ranks t n m [] h less is = absurd (omega arith)
level_at count ranks t zero m (xs ∷ rest) h less is =
    let e : m ≡ t = omega arith in
    ap (λ k. list_all (is_level count ranks k) xs) e ∙ left_of (list_all (is_level count ranks t) xs) (level_from count ranks (t + 1) rest) h
level_at count ranks t (suc n) m (xs ∷ rest) h less is =
    let e : m ≡ (t + 1) + n = omega arith in
    let l : n < length rest = omega arith in
    level_at count ranks (t + 1) n m rest (right_of (list_all (is_level count ranks t) xs) (level_from count ranks (t + 1) rest) h) l e

level_below : (count : ℕ) (ranks : List ℕ) (r t x : ℕ) → is_level count ranks t x ≡ true → nat_lt (rank ranks t) r ≡ true → is_below count ranks r x ≡ true
level_below count ranks r t x h less = by (rank ranks t) (rank ranks x) h less
  where
    by : (a b : ℕ) → (nat_lt x count && not (nat_lt a b)) ≡ true → nat_lt a r ≡ true → (nat_lt x count && nat_lt b r) ≡ true
    by a b h k = grind (arith, nat_tests)

falls_below : (count : ℕ) (ranks : List ℕ) (t x : ℕ) → is_level count ranks t x ≡ true → nat_lt (rank ranks x) (rank ranks t) ≡ true → is_below count ranks (rank ranks t) x ≡ true
falls_below count ranks t x h less = both (nat_lt x count) (nat_lt (rank ranks x) (rank ranks t)) (left_of (nat_lt x count) (not (nat_lt (rank ranks t) (rank ranks x))) h) less

all_level_below : (count : ℕ) (ranks : List ℕ) (r t : ℕ) (xs : List ℕ) → nat_lt (rank ranks t) r ≡ true → list_all (is_level count ranks t) xs ≡ true → list_all (is_below count ranks r) xs ≡ true
all_level_below count ranks r t [] less h = refl
all_level_below count ranks r t (x ∷ xs) less h =
    both (is_below count ranks r x) (list_all (is_below count ranks r) xs)
    (level_below count ranks r t x (left_of (is_level count ranks t x) (list_all (is_level count ranks t) xs) h) less)
    (all_level_below count ranks r t xs less (right_of (is_level count ranks t x) (list_all (is_level count ranks t) xs) h))

all_falls_below : (count : ℕ) (ranks : List ℕ) (t : ℕ) (xs : List ℕ) → falls ranks t xs ≡ true → list_all (is_level count ranks t) xs ≡ true → list_all (is_below count ranks (rank ranks t)) xs ≡ true
all_falls_below count ranks t [] f h = refl
all_falls_below count ranks t (x ∷ xs) f h =
    let low : ℕ → Bool = λ y. nat_lt (rank ranks y) (rank ranks t) in
    both (is_below count ranks (rank ranks t) x) (list_all (is_below count ranks (rank ranks t)) xs)
    (falls_below count ranks t x (left_of (is_level count ranks t x) (list_all (is_level count ranks t) xs) h) (left_of (low x) (list_all low xs) f))
    (all_falls_below count ranks t xs (right_of (low x) (list_all low xs) f) (right_of (is_level count ranks t x) (list_all (is_level count ranks t) xs) h))

not_below_itself : (count r t : ℕ) (ranks : List ℕ) → r ≡ rank ranks t → is_below count ranks r t ≡ false
not_below_itself count r t ranks is = by (rank ranks t) is
  where
    by : (a : ℕ) → r ≡ a → (nat_lt t count && nat_lt a r) ≡ false
    by a e = grind (arith, nat_tests)

-- the types below that of t, which steps don't leave
pub record Below (step : ℕ → List ℕ) (low : ℕ → Bool) (t : ℕ) : Type 0 where
  pub stays : (x : ℕ) → low x ≡ true → list_all low (step x) ≡ true
  pub start : list_all low (step t) ≡ true
  pub out : low t ≡ false

falling_below : (step : ℕ → List ℕ) (count : ℕ) (ranks : List ℕ) (next : List (List ℕ)) (t : ℕ) →
    AreNext count step next → level_from count ranks 0 next ≡ true → t < count → falls ranks t (step t) ≡ true → Below step (is_below count ranks (rank ranks t)) t
falling_below step count ranks next t are level less fall =
    record { stays = stays; start = all_falls_below count ranks t (step t) fall (at t less); out = not_below_itself count (rank ranks t) t ranks refl }
  where
    at : (x : ℕ) → x < count → list_all (is_level count ranks x) (step x) ≡ true
    at x l =
        let l' : x < length next = omega (arith, are.0) in
        ap (list_all (is_level count ranks x)) (sym (are.1 x l)) ∙ level_at count ranks 0 x x next level l' (omega arith)

    stays : (x : ℕ) → is_below count ranks (rank ranks t) x ≡ true → list_all (is_below count ranks (rank ranks t)) (step x) ≡ true
    stays x h =
        let l : x < count = grind (arith, nat_tests, left_of (nat_lt x count) (nat_lt (rank ranks x) (rank ranks t)) h) in
        all_level_below count ranks (rank ranks t) x (step x) (right_of (nat_lt x count) (nat_lt (rank ranks x) (rank ranks t)) h) (at x l)

pub shown_below : (step : ℕ → List ℕ) (count : ℕ) (r : Ranking) → HasLevels count step r → (t : ℕ) → shows r t ≡ true → Below step (is_below count r.ranks.items (rank r.ranks.items t)) t
shown_below step count r levels t shown =
    let few : t < length r.next.items = grind (arith, nat_tests, left_of (nat_lt t (length r.next.items)) (falls r.ranks.items t (slice_index_or r.next.items t [])) shown) in
    let kept : 0 < length r.next.items = omega (arith, few) in
    let are : AreNext count step r.next.items = (levels kept).0 in
    let less : t < count = omega (arith, are.0, few) in
    falling_below step count r.ranks.items r.next.items t are (ap (λ n. level_from n r.ranks.items 0 r.next.items) (sym are.0) ∙ (levels kept).1) less
    (ap (falls r.ranks.items t) (sym (are.1 t less)) ∙ right_of (nat_lt t (length r.next.items)) (falls r.ranks.items t (slice_index_or r.next.items t [])) shown)

pub ranking_shows : (step : ℕ → List ℕ) (count : ℕ) (r : Ranking) → HasLevels count step r → IsShown count step r
ranking_shows step count r levels t shown =
    let low : ℕ → Bool = is_below count r.ranks.items (rank r.ranks.items t) in
    let b : Below step low t = shown_below step count r levels t shown in
    never_back low step b.stays count t b.start b.out
