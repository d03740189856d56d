-- The pairs of a list of rules, one after the other.
use Rattle.std.proofs.Common.{◌≡◌, ◌≢◌, ◌⊎◌, inl, inr, refl, sym, ap, ◌∙◌, subst, ℕ, zero, suc, ◌≤◌, ◌<◌, Bool, true, false, nat_lt, List, [], ◌∷◌, length, slice_get, slice_index_or, Some, pos, arith}
use Rattle.box_eval.specs.declared.flat.Flat.{Flat}
use Rattle.linear_sums.specs.declared.pick.Facing.{Facing}
use Rattle.linear_sums.specs.declared.two_slots.TwoSlots.{TwoSlots}
use Rattle.linear_sums.specs.FacingPairs.{IsFalseFacing, IsFirstFacing, NoneFacing, NoneBefore}
use Rattle.linear_sums.specs.Twos.{two, IsIn, IsListed, NoPair, IsPairOf, NoPartner, HasPartner, NonePaired}
use Rattle.linear_sums.proofs.Listing.{linear_there, get_less}
use Rattle.linear_sums.proofs.Searching.{by_same}

-- an entry as code reads it
abbrev pub entry_at : List TwoSlots → ℕ → TwoSlots
entry_at ts i = slice_index_or ts i (two 0 0 (pos 0) 0 (pos 0))

pub get_entry : (ts : List TwoSlots) (i : ℕ) → i < length ts → slice_get ts i ≡ Some (entry_at ts i)
get_entry [] i h = absurd (omega arith)
get_entry (x ∷ xs) zero h = refl
get_entry (x ∷ xs) (suc i) h = get_entry xs i (omega (arith, h))

some_same : (t u : TwoSlots) → Some t ≡ Some u → t ≡ u
some_same t u e = cc

pub one_entry : (ts : List TwoSlots) (i : ℕ) (t u : TwoSlots) → slice_get ts i ≡ Some t → slice_get ts i ≡ Some u → t ≡ u
one_entry ts i t u e f = some_same t u (sym e ∙ f)

-- ---- one rule and those after it

by_less : (b : Bool) (m n : ℕ) (P : Type 0) → nat_lt m n ≡ b → (m < n → P) → (n ≤ m → P) → P
by_less true m n P e less more = less (grind arith)
by_less false m n P e less more = more (grind arith)

by_order : (m n : ℕ) (P : Type 0) → (m < n → P) → (m ≡ n → P) → (n < m → P) → P
by_order m n P less same more = by_less (nat_lt m n) m n P refl less (λ h. by_same m n P same (λ apart. more (omega (arith, h, apart))))

module _ (flat : Flat) (ts : List TwoSlots) (after : ℕ) (c : TwoSlots) where
  pub partner_start : (n : ℕ) → n ≡ suc after → NoPartner flat ts after c n
  partner_start n e j d later before at = absurd (omega (arith, e, later, before))

  pub partner_next : (n m : ℕ) (d : TwoSlots) → m ≡ suc n → slice_get ts n ≡ Some d → NoPartner flat ts after c n → NoPair flat c.rule d.rule → NoPartner flat ts after c m
  partner_next n m d next at none apart_here j e later before at' = by_same j n (NoPair flat c.rule e.rule)
      (λ same. subst (λ (x : TwoSlots). NoPair flat c.rule x.rule) (one_entry ts n d e at (subst (λ k. slice_get ts k ≡ Some e) same at')) apart_here)
      (λ apart. none j e later (earlier apart) at') where
        earlier : j ≢ n → j < n
        earlier apart = omega (arith, before, next, apart)

  pub partner_none : (n : ℕ) → length ts ≤ n → NoPartner flat ts after c n → NoPartner flat ts after c (length ts)
  partner_none n h none j d later before at = none j d later (omega (arith, h, before)) at

  pub partner_found : (n : ℕ) (d : TwoSlots) (f : Facing) → after < n → slice_get ts n ≡ Some d → NoPartner flat ts after c n → IsPairOf flat c.rule d.rule f → HasPartner flat ts after c f
  partner_found n d f later at none pair = record { place = n; entry = d; later = later; at = at; pair = pair; none = none }

-- ---- all rules

module _ (flat : Flat) (ts : List TwoSlots) where
  pub paired_start : NonePaired flat ts 0
  paired_start i c before at = absurd (omega (arith, before))

  pub paired_next : (n m : ℕ) (d : TwoSlots) → m ≡ suc n → slice_get ts n ≡ Some d → NonePaired flat ts n → NoPartner flat ts n d (length ts) → NonePaired flat ts m
  paired_next n m d next at none none_here i c before at' = by_same i n (NoPartner flat ts i c (length ts))
      (λ same. subst (λ k. NoPartner flat ts k c (length ts)) (sym same) (subst (λ (x : TwoSlots). NoPartner flat ts n x (length ts)) (one_entry ts n d c at (subst (λ k. slice_get ts k ≡ Some c) same at')) none_here))
      (λ apart. none i c (earlier apart) at') where
        earlier : i ≢ n → i < n
        earlier apart = omega (arith, before, next, apart)

  -- both rules of a facing pair are in the list
  record IsPlaced (c d : ℕ) : Type 0 where
    first : IsIn ts c
    second : IsIn ts d
    ascending : first.place < second.place

  module _ (listed : IsListed flat (length flat.rules) ts) where
    in_order : (c d : ℕ) → c < d → (p : IsIn ts c) (q : IsIn ts d) → p.place < q.place
    in_order c d less p q = by_order p.place q.place (p.place < q.place) (λ h. h)
        (λ e. absurd (same_rule (one_entry ts q.place p.entry q.entry (subst (λ k. slice_get ts k ≡ Some p.entry) e p.at) q.at)))
        (λ h. absurd (behind (listed.ascending q.place p.place q.entry p.entry q.at p.at h))) where
          same_rule : p.entry ≡ q.entry → ⊥
          same_rule e = omega (arith, ap (λ (x : TwoSlots). x.rule) e, p.is, q.is, less)

          behind : q.entry.rule < p.entry.rule → ⊥
          behind h = omega (arith, h, p.is, q.is, less)

    placed : (k c l d : ℕ) → IsFalseFacing flat k c l d → IsPlaced c d
    placed k c l d f =
        let a = f.faces.facing in
        let p = listed.all c a.one a.other (linear_there flat c a.first_linear) a.first_linear a.first_slots in
        let q = listed.all d a.one a.other (linear_there flat d a.second_linear) a.second_linear a.second_slots in
        record { first = p; second = q; ascending = in_order c d f.faces.before p q }

    -- a facing pair by its entries
    as_entries : (k c l d : ℕ) (p : IsIn ts c) (q : IsIn ts d) → IsFalseFacing flat k c l d → IsFalseFacing flat k p.entry.rule l q.entry.rule
    as_entries k c l d p q f = subst (λ n. IsFalseFacing flat k n l q.entry.rule) (sym p.is) (subst (λ n. IsFalseFacing flat k c l n) (sym q.is) f)

    not_before : (n : ℕ) → NonePaired flat ts n → (k c l d : ℕ) → IsFalseFacing flat k c l d → (p : IsPlaced c d) → p.first.place < n → ⊥
    not_before n none k c l d f p h = none p.first.place p.first.entry h p.first.at p.second.place p.second.entry p.ascending
        (get_less ts p.second.place p.second.entry p.second.at) p.second.at k l (as_entries k c l d p.first p.second f)

    pub none_facing : (n : ℕ) → length ts ≤ n → NonePaired flat ts n → NoneFacing flat
    none_facing n h none k c l d f =
        let p = placed k c l d f in
        not_before n none k c l d f p (omega (arith, h, get_less ts p.first.place p.first.entry p.first.at))

    module _ (n : ℕ) (t : TwoSlots) (at : slice_get ts n ≡ Some t) (none : NonePaired flat ts n) (found : Facing) (is : HasPartner flat ts n t found) where
      second_after : (b : ℕ) (q : IsIn ts b) → is.place ≤ q.place → is.entry.rule ≤ b
      second_after b q h = by_same is.place q.place (is.entry.rule ≤ b)
          (λ e. same_rule (one_entry ts q.place is.entry q.entry (subst (λ k. slice_get ts k ≡ Some is.entry) e is.at) q.at))
          (λ apart. later (listed.ascending is.place q.place is.entry q.entry is.at q.at (omega (arith, h, apart)))) where
            same_rule : is.entry ≡ q.entry → is.entry.rule ≤ b
            same_rule e = omega (arith, ap (λ (x : TwoSlots). x.rule) e, q.is)

            later : is.entry.rule < q.entry.rule → is.entry.rule ≤ b
            later h = omega (arith, h, q.is)

      same_first : (i a j b : ℕ) → IsFalseFacing flat i a j b → (p : IsPlaced a b) → p.first.place ≡ n → (t.rule ≡ a) × (is.entry.rule ≤ b)
      same_first i a j b f p e =
          let same = one_entry ts n t p.first.entry at (subst (λ k. slice_get ts k ≡ Some p.first.entry) e p.first.at) in
          let rule : t.rule ≡ a = ap (λ (x : TwoSlots). x.rule) same ∙ p.first.is in (
            rule,
            by_less (nat_lt p.second.place is.place) p.second.place is.place (is.entry.rule ≤ b) refl
                (λ h. absurd (is.none p.second.place p.second.entry (omega (arith, e, p.ascending)) h p.second.at i j (as_rules rule))) (second_after b p.second),
          ) where
            as_rules : t.rule ≡ a → IsFalseFacing flat i t.rule j p.second.entry.rule
            as_rules e = subst (λ n. IsFalseFacing flat i n j p.second.entry.rule) (sym e) (subst (λ n. IsFalseFacing flat i a j n) (sym p.second.is) f)

      first_after : (a : ℕ) (p : IsIn ts a) → n < p.place → t.rule < a
      first_after a p h = let r = listed.ascending n p.place t p.entry at p.at h in omega (arith, r, p.is)

      before_none : NoneBefore flat t.rule is.entry.rule
      before_none i a j b f =
          let p = placed i a j b f in
          by_order p.first.place n ((t.rule < a) ⊎ ((t.rule ≡ a) × (is.entry.rule ≤ b)))
          (λ h. absurd (not_before n none i a j b f p h))
          (λ e. inr (same_first i a j b f p e))
          (λ h. inl (first_after a p.first h))

      pub first_found : IsFirstFacing flat found
      first_found =
          let pair = is.pair in
          record {
            facing = subst (λ c. IsFalseFacing flat found.first.times c found.second.times found.second.rule) (sym pair.is_first)
                (subst (λ d. IsFalseFacing flat found.first.times t.rule found.second.times d) (sym pair.is_second) pair.facing);
            none_before = subst (λ c. NoneBefore flat c found.second.rule) (sym pair.is_first) (subst (λ d. NoneBefore flat t.rule d) (sym pair.is_second) before_none);
          }
