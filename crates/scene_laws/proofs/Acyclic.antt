-- What is reached by steps is closed under them, so no steps lead back to a number that isn't among those reached from it.
use Rattle.std.proofs.Common.{◌≡◌, ℕ, zero, suc, ◌+◌, ◌≤◌, ◌<◌, refl, sym, ap, ◌∙◌, subst, ◌⊎◌, inl, inr, List, [], ◌∷◌, ◌++◌, Bool, true, false, ◌||◌, not, cond, length, arith, true≢false}
use Rattle.std.specs.Prelude.{filter, flat_map, nat_eq}
use Rattle.expansion_laws.specs.type_heads.Members.{has}
use Rattle.expansion_laws.specs.type_heads.Cycles.{fresh, reached, returns}
use Rattle.field_flatten.proofs.Tests.{number_is, number_self, In, in_left, in_right, in_either, in_flat_map, flat_map_in, in_filter, any_at, any_from}
use Rattle.scene_laws.proofs.FieldNames.{Pairs}
use Rattle.scene_laws.proofs.Steps.{pairs_append}

abbrev pub Differ : ℕ → ℕ → Type 0
Differ a b = a ≡ b → ⊥

pub has_in : (n : ℕ) (ns : List ℕ) → has n ns ≡ true → In n ns
has_in n ns h = let a = any_at (nat_eq n) ns h in subst (λ k. In k ns) (sym (number_is n a.0 a.2)) a.1

pub in_has : (n : ℕ) (ns : List ℕ) → In n ns → has n ns ≡ true
in_has n ns i = any_from (nat_eq n) ns n i (number_self n)

-- ---- distinct numbers below a bound

zero_more : (n : ℕ) → 0 ≤ n
zero_more n = omega arith

next_most : (a b : ℕ) → a ≤ b + 1 → suc a ≤ suc b + 1
next_most a b h = omega (arith, h)

same_most : (a b : ℕ) → a ≤ b → suc a ≤ b + 1
same_most a b h = omega (arith, h)

module _ (n : ℕ) where
  all_kept : (xs : List ℕ) → ((y : ℕ) → In y xs → n ≡ y → ⊥) → length xs ≤ length (filter (λ x. not (nat_eq x n)) xs)
  all_kept [] f = zero_more 0
  all_kept (x ∷ xs) f = by (nat_eq x n) refl (all_kept xs (λ y i. f y (inr i)))
    where
      by : (b : Bool) → nat_eq x n ≡ b → length xs ≤ length (filter (λ x. not (nat_eq x n)) xs) → suc (length xs) ≤ length (cond (not b) (x ∷ filter (λ x. not (nat_eq x n)) xs) (filter (λ x. not (nat_eq x n)) xs))
      by true e rest = absurd (f x (inl refl) (sym (number_is x n e)))
      by false e rest = omega (arith, rest)

  one_less : (xs : List ℕ) → Pairs Differ xs → length xs ≤ length (filter (λ x. not (nat_eq x n)) xs) + 1
  one_less [] p = zero_more 1
  one_less (x ∷ xs) p = by (nat_eq x n) refl (one_less xs p.1)
    where
      by : (b : Bool) → nat_eq x n ≡ b → length xs ≤ length (filter (λ x. not (nat_eq x n)) xs) + 1 → suc (length xs) ≤ length (cond (not b) (x ∷ filter (λ x. not (nat_eq x n)) xs) (filter (λ x. not (nat_eq x n)) xs)) + 1
      by true e rest = same_most (length xs) (length (filter (λ x. not (nat_eq x n)) xs)) (all_kept xs (λ y i same. p.0 y i (number_is x n e ∙ same)))
      by false e rest = next_most (length xs) (length (filter (λ x. not (nat_eq x n)) xs)) rest

  pairs_filter : (xs : List ℕ) → Pairs Differ xs → Pairs Differ (filter (λ x. not (nat_eq x n)) xs)
  pairs_filter [] p = tt
  pairs_filter (x ∷ xs) p = by (not (nat_eq x n)) (pairs_filter xs p.1)
    where
      by : (b : Bool) → Pairs Differ (filter (λ x. not (nat_eq x n)) xs) → Pairs Differ (cond b (x ∷ filter (λ x. not (nat_eq x n)) xs) (filter (λ x. not (nat_eq x n)) xs))
      by true rest = (λ y i. p.0 y (in_filter (λ x. not (nat_eq x n)) xs y i).0, rest)
      by false rest = rest

lower : (k n : ℕ) → k < suc n → not (nat_eq k n) ≡ true → k < n
lower k n h e = grind arith

none_below : (xs : List ℕ) → ((x : ℕ) → In x xs → x < 0) → length xs ≤ 0
none_below [] f = zero_more 0
none_below (x ∷ xs) f = absurd (let h = f x (inl refl) in omega (arith, h))

chain_le : (a b c : ℕ) → a ≤ b + 1 → b ≤ c → a ≤ suc c
chain_le a b c p q = omega (arith, p, q)

-- distinct numbers below n are n at most
pub few_below : (n : ℕ) (xs : List ℕ) → Pairs Differ xs → ((x : ℕ) → In x xs → x < n) → length xs ≤ n
few_below zero xs p f = none_below xs f
few_below (suc n) xs p f =
    let rest = few_below n (filter (λ x. not (nat_eq x n)) xs) (pairs_filter n xs p)
    (λ x i. let g = in_filter (λ x. not (nat_eq x n)) xs x i in lower x n (f x g.0) g.1) in
    chain_le (length xs) (length (filter (λ x. not (nat_eq x n)) xs)) n (one_less n xs p) rest

-- ---- what is new

fresh_in : (seen xs : List ℕ) (y : ℕ) → In y (fresh seen xs) → In y xs × (has y seen ≡ false)
fresh_in seen [] y i = absurd i
fresh_in seen (x ∷ xs) y i = by (has x seen) refl i (fresh_in seen xs y) (fresh_in (x ∷ seen) xs y)
  where
    or_left : (a b : Bool) → a || b ≡ false → b ≡ false
    or_left true b h = absurd (true≢false h)
    or_left false b h = h

    by : (b : Bool) → has x seen ≡ b → In y (cond b (fresh seen xs) (x ∷ fresh (x ∷ seen) xs)) → (In y (fresh seen xs) → In y xs × (has y seen ≡ false)) → (In y (fresh (x ∷ seen) xs) → In y xs × (has y (x ∷ seen) ≡ false))
        → In y (x ∷ xs) × (has y seen ≡ false)
    by true e j f g = let r = f j in (inr r.0, r.1)
    by false e (inl same) f g = (inl same, subst (λ z. has z seen ≡ false) (sym same) e)
    by false e (inr j) f g = let r = g j in (inr r.0, or_left (nat_eq y x) (has y seen) r.1)

fresh_has : (seen xs : List ℕ) (y : ℕ) → In y xs → In y seen ⊎ In y (fresh seen xs)
fresh_has seen [] y i = absurd i
fresh_has seen (x ∷ xs) y i = by (has x seen) refl i (λ j. fresh_has seen xs y j) (λ j. fresh_has (x ∷ seen) xs y j)
  where
    by : (b : Bool) → has x seen ≡ b → In y (x ∷ xs) → (In y xs → In y seen ⊎ In y (fresh seen xs)) → (In y xs → In y (x ∷ seen) ⊎ In y (fresh (x ∷ seen) xs))
        → In y seen ⊎ In y (cond b (fresh seen xs) (x ∷ fresh (x ∷ seen) xs))
    by true e (inl same) f g = inl (subst (λ z. In z seen) (sym same) (has_in x seen e))
    by true e (inr j) f g = f j
    by false e (inl same) f g = inr (inl same)
    by false e (inr j) f g = put (g j)
      where
        put : In y (x ∷ seen) ⊎ In y (fresh (x ∷ seen) xs) → In y seen ⊎ In y (x ∷ fresh (x ∷ seen) xs)
        put (inl (inl same)) = inr (inl same)
        put (inl (inr k)) = inl k
        put (inr k) = inr (inr k)

fresh_pairs : (seen xs : List ℕ) → Pairs Differ (fresh seen xs)
fresh_pairs seen [] = tt
fresh_pairs seen (x ∷ xs) = by (has x seen) (fresh_pairs seen xs) (fresh_pairs (x ∷ seen) xs)
  where
    by : (b : Bool) → Pairs Differ (fresh seen xs) → Pairs Differ (fresh (x ∷ seen) xs) → Pairs Differ (cond b (fresh seen xs) (x ∷ fresh (x ∷ seen) xs))
    by true p q = p
    by false p q = (λ y i same. true≢false (sym (in_has y (x ∷ seen) (inl (sym same))) ∙ (fresh_in (x ∷ seen) xs y i).1), q)

-- ---- rounds

module _ (count : ℕ) (step : ℕ → List ℕ) (bounded : (x y : ℕ) → In y (step x) → y < count) where
  pub record Closed (start result : List ℕ) : Type 0 where
    pub starts : (y : ℕ) → In y start → In y result
    pub steps : (x y : ℕ) → In x result → In y (step x) → In y result

  nil_after : (xs : List ℕ) → xs ++ [] ≡ xs
  nil_after [] = refl
  nil_after (x ∷ xs) = ap (λ l. x ∷ l) (nil_after xs)

  too_many : (a b : ℕ) → a ≤ b → suc b ≤ a + 0 → ⊥
  too_many a b p q = omega (arith, p, q)

  length_more : (xs : List ℕ) (y : ℕ) (ys : List ℕ) (n c : ℕ) → suc c ≤ length xs + suc n → suc c ≤ length (xs ++ y ∷ ys) + n
  length_more [] y ys n c h = by (length ys) h
    where
      by : (k : ℕ) → suc c ≤ 0 + suc n → suc c ≤ suc k + n
      by k e = omega (arith, e)
  length_more (x ∷ xs) y ys zero c h = by (length xs) (length (xs ++ y ∷ ys)) (more xs) h
    where
      more : (zs : List ℕ) → length zs + 1 ≤ length (zs ++ y ∷ ys)
      more [] = omega arith
      more (z ∷ zs) = let r = more zs in omega (arith, r)

      by : (a b : ℕ) → a + 1 ≤ b → suc c ≤ suc a + 1 → suc c ≤ suc b + 0
      by a b p q = omega (arith, p, q)
  length_more (x ∷ xs) y ys (suc n) c h = by (length xs) (length (xs ++ y ∷ ys)) (more xs) h
    where
      more : (zs : List ℕ) → length zs + 1 ≤ length (zs ++ y ∷ ys)
      more [] = omega arith
      more (z ∷ zs) = let r = more zs in omega (arith, r)

      by : (a b : ℕ) → a + 1 ≤ b → suc c ≤ suc a + suc (suc n) → suc c ≤ suc b + suc n
      by a b p q = omega (arith, p, q)

  rounds_closed : (n : ℕ) (found new : List ℕ) → Pairs Differ (found ++ new) → ((x : ℕ) → In x (found ++ new) → x < count) → ((x y : ℕ) → In x found → In y (step x) → In y (found ++ new))
      → suc count ≤ length found + n → Closed (found ++ new) (reached n step found new)
  rounds_closed zero found new p b c l = absurd (too_many (length found) count (few_below count found (first found new p) (λ x i. b x (in_left x found new i))) l)
    where
      first : (xs ys : List ℕ) → Pairs Differ (xs ++ ys) → Pairs Differ xs
      first [] ys q = tt
      first (x ∷ xs) ys q = (λ y i. q.0 y (in_left y xs ys i), first xs ys q.1)
  rounds_closed (suc n) found [] p b c l = record {
    starts = λ y i. subst (In y) (nil_after found) i;
    steps = λ x y i j. subst (In y) (nil_after found) (c x y i j);
  }
  rounds_closed (suc n) found (z ∷ zs) p b c l =
      let seen = found ++ z ∷ zs in
      let more = flat_map step (z ∷ zs) in
      let next = fresh seen more in
      let r = rounds_closed n seen next
      (pairs_append Differ seen next p (fresh_pairs seen more) (λ x y i j same. true≢false (sym (in_has y seen (subst (λ k. In k seen) same i)) ∙ (fresh_in seen more y j).1)))
      (λ x i. elim (in_either x seen next i) as (λ _. x < count) [
        | inl j ↦ b x j
        | inr j ↦ let g = flat_map_in step (z ∷ zs) x (fresh_in seen more x j).0 in bounded g.0 x g.2
      ])
      (λ x y i j. elim (in_either x found (z ∷ zs) i) as (λ _. In y (seen ++ next)) [
        | inl k ↦ in_left y seen next (c x y k j)
        | inr k ↦ elim (fresh_has seen more y (in_flat_map step (z ∷ zs) x y k j)) as (λ _. In y (seen ++ next)) [
          | inl m ↦ in_left y seen next m
          | inr m ↦ in_right y seen next m
        ]
      ])
      (length_more found z zs n count l) in
      record { starts = λ y i. r.starts y (in_left y seen next i); steps = r.steps }

  -- what is reached from some numbers
  pub reached_closed : (start : List ℕ) → ((x : ℕ) → In x start → x < count) → Closed start (reached (suc count) step [] (fresh [] start))
  reached_closed start b =
      let r = rounds_closed (suc count) [] (fresh [] start) (fresh_pairs [] start) (λ x i. b x (fresh_in [] start x i).0) (λ x y i j. absurd i) (whole count) in
      record { starts = λ y i. r.starts y (found y (fresh_has [] start y i)); steps = r.steps }
    where
      whole : (c : ℕ) → suc c ≤ 0 + suc c
      whole c = omega arith

      found : (y : ℕ) → In y [] ⊎ In y (fresh [] start) → In y (fresh [] start)
      found y (inl i) = absurd i
      found y (inr i) = i

  -- one or more steps
  abbrev pub Reach : ℕ → ℕ → ℕ → Type 0
  Reach zero a b = In b (step a)
  Reach (suc k) a b = (c : ℕ) × In c (step a) × Reach k c b

  pub reach_more : (k a b c : ℕ) → Reach k a b → In c (step b) → Reach (suc k) a c
  reach_more zero a b c r i = (b, r, i)
  reach_more (suc k) a b c r i = (r.0, r.1, reach_more k r.0 b c r.2 i)

  closed_reach : (start result : List ℕ) → Closed start result → (k a b : ℕ) → In a result → Reach k a b → In b result
  closed_reach start result c zero a b i r = c.steps a b i r
  closed_reach start result c (suc k) a b i r = closed_reach start result c k r.0 b (c.steps a r.0 i r.1) r.2

  -- a number that doesn't return isn't reached from itself
  pub no_return : (t : ℕ) → returns count step t ≡ false → (k : ℕ) → Reach k t t → ⊥
  no_return t h k r =
      let c = reached_closed (step t) (bounded t) in
      true≢false (sym (in_has t (reached (suc count) step [] (fresh [] (step t))) (by k r c)) ∙ h)
    where
      by : (k : ℕ) → Reach k t t → Closed (step t) (reached (suc count) step [] (fresh [] (step t))) → In t (reached (suc count) step [] (fresh [] (step t)))
      by zero r c = c.starts t r
      by (suc k) r c = closed_reach (step t) (reached (suc count) step [] (fresh [] (step t))) c k r.0 t (c.starts r.0 r.1) r.2
