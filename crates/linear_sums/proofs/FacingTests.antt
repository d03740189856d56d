-- When two rules over exactly two slots face each other, and their sum is false.
use Rattle.std.proofs.Common.{◌≡◌, ◌≢◌, ◌⊎◌, inl, inr, refl, sym, ap, ap₂, ◌∙◌, subst, ℕ, zero, suc, ◌+◌, ◌*◌, ◌≤◌, ◌<◌, ◌^◌, Bool, true, false, not, ◌&&◌, if◌then◌else◌, nat_le, List, [], ◌∷◌, slice_get, Option, Some, None, ℤ, pos, negsuc, ◌+ℤ◌, ◌*ℤ◌, int_lt, arith}
use Rattle.std.specs.Prelude.{unsigned_abs, MatchOption}
use Rattle.std.specs.Bool.{beq}
use Rattle.std.specs.Option.{option_map_or}
use Rattle.std.proofs.lemmas.Int.{ints}
use Rattle.std.proofs.lemmas.Bool.{false≢true}
use Rattle.std.proofs.Math.IntN.{*ℤ-zero, pos-*ℤ-pos}
use Rattle.std.proofs.Math.Nat.{mul-le-mul_left, mul-le-mul_right}
use Rattle.box_eval.specs.declared.rule.Rule.{Rule}
use Rattle.box_eval.specs.declared.bounds.Pair.{Pair}
use Rattle.box_eval.specs.declared.flat.Flat.{Flat}
use Rattle.linear_sums.specs.declared.multiples.Multiples.{Multiples}
use Rattle.linear_sums.specs.declared.pick.Facing.{Facing}
use Rattle.linear_sums.specs.declared.two_slots.TwoSlots.{TwoSlots}
use Rattle.linear_sums.specs.Linear.{RuleForm, weight_at, linear_form, no_form, rule_weight, is_false_sum, sum_form, sum_weight}
use Rattle.linear_sums.specs.FacingPairs.{HasTwoSlots, Cancels, AreFacing, IsFalseFacing, pick_of}
use Rattle.linear_sums.specs.Multiple.{IsLeast, NoLeast}
use Rattle.linear_sums.specs.Twos.{facing_of, form_in, IsTwoOf, IsTwoSlots, AddUp, AreMultiples, NoMultiples, NoPair, IsPairOf}
use Rattle.linear_sums.proofs.Cancelling.{equal_sizes, cancels_too, no_product}
use Rattle.linear_sums.proofs.Products.{none_above}
use Rattle.linear_sums.proofs.Searching.{by_same, among}
use Rattle.linear_sums.proofs.Weights.{part_left, rule_factor_within}

-- ---- the slots of two forms

ordered_pair : (a b c d : ℕ) → a < b → c < d → ((a ≡ c) ⊎ (a ≡ d)) → ((b ≡ c) ⊎ (b ≡ d)) → (a ≡ c) × (b ≡ d)
ordered_pair a b c d h k (inl p) (inr q) = (p, q)
ordered_pair a b c d h k (inl p) (inl q) = absurd (omega (arith, h, p, q))
ordered_pair a b c d h k (inr p) (inr q) = absurd (omega (arith, h, p, q))
ordered_pair a b c d h k (inr p) (inl q) = absurd (omega (arith, h, k, p, q))

same_slots : (form : RuleForm) (a b c d : ℕ) → HasTwoSlots form a b → HasTwoSlots form c d → (a ≡ c) × (b ≡ d)
same_slots form a b c d p q = ordered_pair a b c d p.ascending q.ascending (among form.factor c d a q.none_else p.first) (among form.factor c d b q.none_else p.second)

nothing_left : (k l : ℕ) (m n : ℤ) → m ≡ pos 0 → n ≡ pos 0 → pos k *ℤ m +ℤ pos l *ℤ n ≡ pos 0
nothing_left k l m n e f = ap₂ (λ (x y : ℤ). pos k *ℤ x +ℤ pos l *ℤ y) e f ∙ ap₂ (λ (x y : ℤ). x +ℤ y) (*ℤ-zero (pos k)) (*ℤ-zero (pos l))

module _ (a b : RuleForm) (t u : TwoSlots) (is_t : IsTwoOf a t) (is_u : IsTwoOf b u) where
  pub same_of : (k l : ℕ) → AreFacing a b k l → (t.one ≡ u.one) × (t.other ≡ u.other)
  same_of k l f =
      let p = same_slots a t.one t.other f.one f.other is_t.slots f.first_slots in
      let q = same_slots b u.one u.other f.one f.other is_u.slots f.second_slots in
      (p.0 ∙ sym q.0, p.1 ∙ sym q.1)

  module _ (same_one : t.one ≡ u.one) (same_other : t.other ≡ u.other) where
    at_one : (k l : ℕ) → pos k *ℤ t.first +ℤ pos l *ℤ u.first ≡ pos k *ℤ a.factor t.one +ℤ pos l *ℤ b.factor t.one
    at_one k l = ap₂ (λ (m n : ℤ). pos k *ℤ m +ℤ pos l *ℤ n) is_t.is_first (is_u.is_first ∙ ap b.factor (sym same_one))

    at_other : (k l : ℕ) → pos k *ℤ t.second +ℤ pos l *ℤ u.second ≡ pos k *ℤ a.factor t.other +ℤ pos l *ℤ b.factor t.other
    at_other k l = ap₂ (λ (m n : ℤ). pos k *ℤ m +ℤ pos l *ℤ n) is_t.is_second (is_u.is_second ∙ ap b.factor (sym same_other))

    pub add_up : (k l : ℕ) → Cancels a b k l → AddUp t u k l
    add_up k l c = record { at_one = at_one k l ∙ c.adds t.one; at_other = at_other k l ∙ c.adds t.other }

    at_slot : (k l : ℕ) → AddUp t u k l → (s : ℕ) → pos k *ℤ a.factor s +ℤ pos l *ℤ b.factor s ≡ pos 0
    at_slot k l add s = by_same s t.one (pos k *ℤ a.factor s +ℤ pos l *ℤ b.factor s ≡ pos 0)
        (λ e. ap (λ (n : ℕ). pos k *ℤ a.factor n +ℤ pos l *ℤ b.factor n) e ∙ sym (at_one k l) ∙ add.at_one)
        (λ not_one. by_same s t.other (pos k *ℤ a.factor s +ℤ pos l *ℤ b.factor s ≡ pos 0)
        (λ e. ap (λ (n : ℕ). pos k *ℤ a.factor n +ℤ pos l *ℤ b.factor n) e ∙ sym (at_other k l) ∙ add.at_other)
        (λ not_other. nothing_left k l (a.factor s) (b.factor s) (is_t.slots.none_else s not_one not_other)
        (is_u.slots.none_else s (λ e. not_one (e ∙ sym same_one)) (λ e. not_other (e ∙ sym same_other)))))

    cancels : (m : Multiples) → AreMultiples t u m → Cancels a b m.first m.second
    cancels m is = record {
      some_first = is.some_first;
      few_first = is.few_first;
      some_second = is.some_second;
      few_second = is.few_second;
      adds = at_slot m.first m.second is.add_up;
    }

    pub faces : (m : Multiples) → AreMultiples t u m → AreFacing a b m.first m.second
    faces m is = record {
      first_linear = is_t.linear;
      second_linear = is_u.linear;
      one = t.one;
      other = t.other;
      first_slots = is_t.slots;
      second_slots = subst (λ n. HasTwoSlots b n t.other) (sym same_one) (subst (λ n. HasTwoSlots b u.one n) (sym same_other) is_u.slots);
      cancel = cancels m is;
      least = λ i j c. is.least i j c.some_first (add_up i j c);
    }

    pub only : (m : Multiples) (k l : ℕ) → AreMultiples t u m → AreFacing a b k l → (k ≡ m.first) × (l ≡ m.second)
    only m k l is f =
        let x = is.least k l f.cancel.some_first (add_up k l f.cancel) in
        let y = f.least m.first m.second (cancels m is) in
        (omega (arith, x.0, y.0), omega (arith, x.1, y.1))

-- ---- signs

-- what a test of two signs says
equal_tests : (p q : Bool) → not (beq p q) ≡ false → p ≡ q
equal_tests true true e = refl
equal_tests false false e = refl
equal_tests true false e = e
equal_tests false true e = sym e

pub same_sign : (x y a b : ℤ) → x ≡ a → y ≡ b → not (beq (int_lt x (pos 0)) (int_lt y (pos 0))) ≡ false → int_lt a (pos 0) ≡ int_lt b (pos 0)
same_sign x y a b p q e =
    sym (ap (λ (n : ℤ). int_lt n (pos 0)) p) ∙ equal_tests (int_lt x (pos 0)) (int_lt y (pos 0)) e ∙ ap (λ (n : ℤ). int_lt n (pos 0)) q

-- numbers of the same sign don't cancel
opposite : (k l : ℕ) (x y : ℤ) → 1 ≤ k → 1 ≤ l → x ≢ pos 0 → pos k *ℤ x +ℤ pos l *ℤ y ≡ pos 0 → int_lt x (pos 0) ≡ int_lt y (pos 0) → ⊥
opposite k l (pos zero) y h i some sum e = some refl
opposite k l (pos (suc m)) (pos n) h i some sum e =
    omega (arith, ints, pos-*ℤ-pos k (suc m), pos-*ℤ-pos l n, part_left k (suc m) (omega arith), h, sum)
opposite k l (pos (suc m)) (negsuc n) h i some sum e = grind (arith, ints)
opposite k l (negsuc m) (pos n) h i some sum e = grind (arith, ints)
opposite k l (negsuc m) (negsuc n) h i some sum e =
    let a = none_above k (negsuc m) (omega (arith, ints)) in
    let b = none_above l (negsuc n) (omega (arith, ints)) in
    let c : pos k *ℤ negsuc m ≢ pos 0 = λ z. some (no_product k (negsuc m) h z) in
    omega (arith, ints, a, b, c, sum)

-- ---- weights

found_factor : (ends : List Pair) (o : Option Rule) (s : ℕ) → unsigned_abs ((option_map_or (linear_form ends) o no_form).factor s) ≤ option_map_or (rule_weight ends) o 1
found_factor ends None s = omega (arith, ints)
found_factor ends (Some rule) s = rule_factor_within ends rule s

small_of : (linear small test : Bool) → linear && small && test ≡ true → small ≡ true
small_of true true test e = refl
small_of true false test e = e
small_of false small test e = absurd (false≢true e)

within_limit : (n : ℕ) → nat_le n (2 ^ 120) ≡ true → n ≤ 2 ^ 120
within_limit n e = grind arith

module _ (flat : Flat) (k c l d : ℕ) (f : IsFalseFacing flat k c l d) where
  small_pair : k * weight_at flat.bounds.pairs flat.rules c + (l * weight_at flat.bounds.pairs flat.rules d + 0) ≤ 2 ^ 120
  small_pair = within_limit _ (small_of (sum_form flat.bounds.pairs flat.rules (pick_of k c ∷ pick_of l d ∷ [])).linear
      (nat_le (sum_weight flat.bounds.pairs flat.rules (pick_of k c ∷ pick_of l d ∷ [])) (2 ^ 120)) _ f.false_sum)

  factor_small : (s : ℕ) (n : ℤ) → n ≡ (form_in flat c).factor s → k * unsigned_abs n ≤ 2 ^ 120
  factor_small s n e =
      let p = mul-le-mul_left k (found_factor flat.bounds.pairs (slice_get flat.rules c) s) in
      omega (arith, small_pair, p, ap (λ (m : ℤ). k * unsigned_abs m) e)

-- ---- two rules

module _ (flat : Flat) (t u : TwoSlots) (is_t : IsTwoSlots flat t) (is_u : IsTwoSlots flat u) where
  pub none_apart : (t.one ≡ u.one → t.other ≡ u.other → ⊥) → NoPair flat t.rule u.rule
  none_apart apart k l f = let s = same_of (form_in flat t.rule) (form_in flat u.rule) t u is_t.form is_u.form k l f.faces.facing in apart s.0 s.1

  pub none_signed : int_lt t.first (pos 0) ≡ int_lt u.first (pos 0) → NoPair flat t.rule u.rule
  none_signed e k l f =
      let a = form_in flat t.rule in
      let b = form_in flat u.rule in
      let s = same_of a b t u is_t.form is_u.form k l f.faces.facing in
      let c = f.faces.facing.cancel in
      let add = add_up a b t u is_t.form is_u.form s.0 s.1 k l c in
      opposite k l t.first u.first c.some_first c.some_second (λ z. is_t.form.slots.first (sym is_t.form.is_first ∙ z)) add.at_one e

  module _ (same_one : t.one ≡ u.one) (same_other : t.other ≡ u.other) where
    pub none_added : NoMultiples t u → NoPair flat t.rule u.rule
    none_added none k l f =
        let c = f.faces.facing.cancel in
        none k l c.some_first c.few_first c.few_second (add_up (form_in flat t.rule) (form_in flat u.rule) t u is_t.form is_u.form same_one same_other k l c)
        (factor_small flat k t.rule l u.rule f t.one t.first is_t.form.is_first) (factor_small flat k t.rule l u.rule f t.other t.second is_t.form.is_second)

    module _ (m : Multiples) (are : AreMultiples t u m) (before : t.rule < u.rule) where
      false_pair : is_false_sum flat (pick_of m.first t.rule ∷ pick_of m.second u.rule ∷ []) flat.bounds.pairs ≡ true
          → IsPairOf flat t.rule u.rule (facing_of (pick_of m.first t.rule) (pick_of m.second u.rule))
      false_pair e = record {
        facing = record { faces = record { before = before; facing = faces (form_in flat t.rule) (form_in flat u.rule) t u is_t.form is_u.form same_one same_other m are }; false_sum = e };
        is_first = refl;
        is_second = refl;
      }

      no_pair : is_false_sum flat (pick_of m.first t.rule ∷ pick_of m.second u.rule ∷ []) flat.bounds.pairs ≡ false → NoPair flat t.rule u.rule
      no_pair e k l f =
          let o = only (form_in flat t.rule) (form_in flat u.rule) t u is_t.form is_u.form same_one same_other m k l are f.faces.facing in
          false≢true (sym e ∙ sym (ap₂ (λ (i j : ℕ). is_false_sum flat (pick_of i t.rule ∷ pick_of j u.rule ∷ []) flat.bounds.pairs) o.0 o.1) ∙ f.false_sum)

      by_test : (x : Bool) (result : Option Facing) → is_false_sum flat (pick_of m.first t.rule ∷ pick_of m.second u.rule ∷ []) flat.bounds.pairs ≡ x
          → result ≡ (if x then Some (facing_of (pick_of m.first t.rule) (pick_of m.second u.rule)) else None)
          → MatchOption result (NoPair flat t.rule u.rule) (IsPairOf flat t.rule u.rule)
      by_test true result e f = subst (λ o. MatchOption o (NoPair flat t.rule u.rule) (IsPairOf flat t.rule u.rule)) (sym f) (false_pair e)
      by_test false result e f = subst (λ o. MatchOption o (NoPair flat t.rule u.rule) (IsPairOf flat t.rule u.rule)) (sym f) (no_pair e)

      pub pair_found : (result : Option Facing)
          → result ≡ (if is_false_sum flat (pick_of m.first t.rule ∷ pick_of m.second u.rule ∷ []) flat.bounds.pairs then Some (facing_of (pick_of m.first t.rule) (pick_of m.second u.rule)) else None)
          → MatchOption result (NoPair flat t.rule u.rule) (IsPairOf flat t.rule u.rule)
      pair_found result f = by_test _ result refl f

-- ---- how often they are taken

pub moved_sum : (i j : ℕ) (x y a b : ℤ) → x ≡ a → y ≡ b → pos i *ℤ x +ℤ pos j *ℤ y ≡ pos 0 → pos i *ℤ a +ℤ pos j *ℤ b ≡ pos 0
moved_sum i j x y a b p q is = sym (ap₂ (λ (m n : ℤ). pos i *ℤ m +ℤ pos j *ℤ n) p q) ∙ is

pub moved_test : (i j : ℕ) (x y a b : ℤ) (r : Bool) → x ≡ a → y ≡ b → (i * unsigned_abs x ≤ 2 ^ 120 → pos i *ℤ x +ℤ pos j *ℤ y ≡ pos 0 → r ≡ true)
    → i * unsigned_abs a ≤ 2 ^ 120 → pos i *ℤ a +ℤ pos j *ℤ b ≡ pos 0 → r ≡ true
moved_test i j x y a b r p q test small none = test (omega (arith, small, ap (λ (n : ℤ). i * unsigned_abs n) p)) (ap₂ (λ (m n : ℤ). pos i *ℤ m +ℤ pos j *ℤ n) p q ∙ none)

module _ (t u : TwoSlots) where
  pub no_least : NoLeast (unsigned_abs t.first) (unsigned_abs u.first) → NoMultiples t u
  no_least none i j some few_i few_j add small also = none i j some few_i few_j (equal_sizes i j t.first u.first add.at_one) small

  module _ (m : Multiples) (is : IsLeast (unsigned_abs t.first) (unsigned_abs u.first) m) where
    pub are_multiples : pos m.first *ℤ t.first +ℤ pos m.second *ℤ u.first ≡ pos 0 → pos m.first *ℤ t.second +ℤ pos m.second *ℤ u.second ≡ pos 0 → AreMultiples t u m
    are_multiples e f = record {
      some_first = is.some_first;
      few_first = is.few_first;
      some_second = is.some_second;
      few_second = is.few_second;
      add_up = record { at_one = e; at_other = f };
      least = λ i j some add. is.least i j some (equal_sizes i j t.first u.first add.at_one);
    }

    still : (some : t.first ≢ pos 0) (x y : ℤ) (b : Bool) → (m.first * unsigned_abs x ≤ 2 ^ 120 → pos m.first *ℤ x +ℤ pos m.second *ℤ y ≡ pos 0 → b ≡ true) → b ≡ false
        → (i j : ℕ) → 1 ≤ i → AddUp t u i j → i * unsigned_abs x ≤ 2 ^ 120 → pos i *ℤ x +ℤ pos j *ℤ y ≡ pos 0 → ⊥
    still some x y b complete e i j some_i add small none =
        let same = equal_sizes i j t.first u.first add.at_one in
        let less = is.least i j some_i same in
        let above : 0 < unsigned_abs t.first = size_above t.first some in
        false≢true (sym e ∙ complete (omega (arith, mul-le-mul_right (unsigned_abs x) less.0, small))
        (cancels_too m.first m.second i j (unsigned_abs t.first) (unsigned_abs u.first) x y some_i above is.same same none)) where
          size_above : (n : ℤ) → n ≢ pos 0 → 0 < unsigned_abs n
          size_above n h = omega (arith, ints, h)

    module _ (some : t.first ≢ pos 0) (b : Bool) (e : b ≡ false) where
      pub not_at_one : (m.first * unsigned_abs t.first ≤ 2 ^ 120 → pos m.first *ℤ t.first +ℤ pos m.second *ℤ u.first ≡ pos 0 → b ≡ true) → NoMultiples t u
      not_at_one complete i j some_i few_i few_j add small also = still some t.first u.first b complete e i j some_i add small add.at_one

      pub not_at_other : (m.first * unsigned_abs t.second ≤ 2 ^ 120 → pos m.first *ℤ t.second +ℤ pos m.second *ℤ u.second ≡ pos 0 → b ≡ true) → NoMultiples t u
      not_at_other complete i j some_i few_i few_j add small also = still some t.second u.second b complete e i j some_i add also add.at_other
