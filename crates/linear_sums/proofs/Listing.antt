-- The list of the linear rules over exactly two slots, rule by rule.
use Rattle.std.proofs.Common.{◌≡◌, ◌≢◌, ◌⊎◌, inl, inr, refl, sym, ap, ◌∙◌, subst, ℕ, zero, suc, ◌<◌, Bool, true, false, if◌then◌else◌, nat_lt, List, [], ◌∷◌, ◌++◌, length, slice_get, Option, Some, None, ℤ, pos, arith}
use Rattle.std.specs.Prelude.{MatchOption}
use Rattle.std.specs.Option.{option_map_or}
use Rattle.std.proofs.lemmas.Bool.{false≢true}
use Rattle.box_eval.specs.declared.rule.Rule.{Rule}
use Rattle.box_eval.specs.declared.bounds.Pair.{Pair}
use Rattle.box_eval.specs.declared.flat.Flat.{Flat}
use Rattle.box_eval.specs.Box.{value_of}
use Rattle.linear_sums.specs.declared.seen.Seen.{Seen}
use Rattle.linear_sums.specs.declared.seen.Seen.TheVariants.{Nothing, One, Two, More}
use Rattle.linear_sums.specs.declared.two_slots.TwoSlots.{TwoSlots}
use Rattle.linear_sums.specs.Linear.{RuleForm, form_at, linear_form, no_form}
use Rattle.linear_sums.specs.FacingPairs.{HasTwoSlots}
use Rattle.linear_sums.specs.Splits.{SplitsOne, SplitsTwo, Splits, IsSearched}
use Rattle.linear_sums.specs.Steps.{IsAdded}
use Rattle.linear_sums.specs.Sums.{IsClear, weight_of, weight_in}
use Rattle.linear_sums.specs.Twos.{form_in, two, two_in_order, pair_in, IsTwoOf, IsTwoSlots, NotTwo, IsIn, IsListed}
use Rattle.linear_sums.proofs.Searching.{by_same}
use Rattle.linear_sums.proofs.Taking.{by_zero}
use Rattle.linear_sums.proofs.Verdicts.{gathered_at}

-- ---- the slots that were found

module _ (old gathered new : List ℤ) (factor : ℕ → ℤ) (found : Seen) (clear : IsClear old) (added : IsAdded old gathered (pos 1) factor) (is : IsSearched gathered new factor Nothing found) where
  pub seen_splits : Splits factor (value_of new) found
  seen_splits = is.splits factor (gathered_at old gathered factor clear added)

  pub seen_clear : IsClear new
  seen_clear = λ slot. by_zero (factor slot) (value_of new slot) (λ e. is.stays slot (gathered_at old gathered factor clear added slot ∙ e)) (λ some. is.cleared slot some)

module _ (form : RuleForm) (left : ℕ → ℤ) (clear : (s : ℕ) → left s ≡ pos 0) where
  not_none : ((s : ℕ) → left s ≡ form.factor s) → NotTwo form
  not_none is linear one other h = h.first (sym (is one) ∙ clear one)

  not_one : (a : ℕ) (p : ℤ) → SplitsOne form.factor left a p → NotTwo form
  not_one a p is linear one other h = by_same one a ⊥
      (λ e. h.second (sym (is.others other (λ f. apart (e ∙ sym f) h.ascending)) ∙ clear other))
      (λ n. h.first (sym (is.others one n) ∙ clear one)) where
        apart : (one ≡ other) → one < other → ⊥
        apart e h = omega (arith, e, h)

  two_slots : (a : ℕ) (p : ℤ) (b : ℕ) (q : ℤ) → SplitsTwo form.factor left a p b q → a < b → HasTwoSlots form a b
  two_slots a p b q is less = record {
    ascending = less;
    first = λ e. is.some_first (is.is_first ∙ e);
    second = λ e. is.some_second (is.is_second ∙ e);
    none_else = λ s n m. sym (is.others s n m) ∙ clear s;
  }

  two_exchanged : (a : ℕ) (p : ℤ) (b : ℕ) (q : ℤ) → SplitsTwo form.factor left a p b q → b < a → HasTwoSlots form b a
  two_exchanged a p b q is less = record {
    ascending = less;
    first = λ e. is.some_second (is.is_second ∙ e);
    second = λ e. is.some_first (is.is_first ∙ e);
    none_else = λ s n m. sym (is.others s m n) ∙ clear s;
  }

  before : (a b : ℕ) → nat_lt a b ≡ true → a < b
  before a b e = grind arith

  behind : (a b : ℕ) → a ≢ b → nat_lt a b ≡ false → b < a
  behind a b n e = grind arith

  in_order : (rule a : ℕ) (p : ℤ) (b : ℕ) (q : ℤ) (x : Bool) → form.linear ≡ true → SplitsTwo form.factor left a p b q → nat_lt a b ≡ x
      → IsTwoOf form (if x then two rule a p b q else two rule b q a p)
  in_order rule a p b q true linear is e = record { linear = linear; slots = two_slots a p b q is (before a b e); is_first = is.is_first; is_second = is.is_second }
  in_order rule a p b q false linear is e = record { linear = linear; slots = two_exchanged a p b q is (behind a b is.apart e); is_first = is.is_second; is_second = is.is_first }

rule_of : (rule a : ℕ) (p : ℤ) (b : ℕ) (q : ℤ) (x : Bool) → (if x then two rule a p b q else two rule b q a p).rule ≡ rule
rule_of rule a p b q true = refl
rule_of rule a p b q false = refl

two_there : (flat : Flat) (number : ℕ) (t : TwoSlots) → number < length flat.rules → t.rule ≡ number → IsTwoOf (form_in flat number) t → IsTwoSlots flat t × (t.rule ≡ number)
two_there flat number t there e is = (record { there = omega (arith, there, e); form = subst (λ n. IsTwoOf (form_in flat n) t) (sym e) is }, e)

pub two_found : (flat : Flat) (number : ℕ) (found : Seen) (left : ℕ → ℤ) → number < length flat.rules → (form_in flat number).linear ≡ true
    → Splits (form_in flat number).factor left found → ((s : ℕ) → left s ≡ pos 0) → MatchOption (pair_in number found) (NotTwo (form_in flat number)) (λ t. IsTwoSlots flat t × (t.rule ≡ number))
two_found flat number Nothing left there linear is clear = not_none (form_in flat number) left clear is
two_found flat number (One a p) left there linear is clear = not_one (form_in flat number) left clear a p is
two_found flat number (Two a p b q) left there linear is clear = two_there flat number (two_in_order number a p b q) there (rule_of number a p b q (nat_lt a b))
    (in_order (form_in flat number) left clear number a p b q (nat_lt a b) linear is refl)
two_found flat number More left there linear is clear = λ linear one other h. is one other h.none_else

-- ---- rules that aren't linear

weighed : (ends : List Pair) (o : Option Rule) (n : ℕ) → option_map_or (weight_of ends) o None ≡ Some n → (option_map_or (linear_form ends) o no_form).linear ≡ true
weighed ends None n e = cc
weighed ends (Some rule) n e = by_linear (linear_form ends rule).linear n _ e where
  by_linear : (b : Bool) (n w : ℕ) → (if b then Some w else None) ≡ Some n → b ≡ true
  by_linear true n w e = refl
  by_linear false n w e = cc

pub weighed_form : (flat : Flat) (number n : ℕ) → weight_in flat number ≡ Some n → (form_in flat number).linear ≡ true
weighed_form flat number n e = weighed flat.bounds.pairs (slice_get flat.rules number) n e

unweighed : (ends : List Pair) (o : Option Rule) → option_map_or (weight_of ends) o None ≡ None → (option_map_or (linear_form ends) o no_form).linear ≡ true → ⊥
unweighed ends None e h = false≢true h
unweighed ends (Some rule) e h = by_linear (linear_form ends rule).linear _ e h where
  by_linear : (b : Bool) (w : ℕ) → (if b then Some w else None) ≡ None → b ≡ true → ⊥
  by_linear true w e h = cc
  by_linear false w e h = false≢true h

pub unweighed_form : (flat : Flat) (number : ℕ) → weight_in flat number ≡ None → NotTwo (form_in flat number)
unweighed_form flat number e linear one other h = unweighed flat.bounds.pairs (slice_get flat.rules number) e linear

-- a linear rule is there
linear_rule : (ends : List Pair) (rules : List Rule) (number : ℕ) → (form_at ends rules number).linear ≡ true → number < length rules
linear_rule ends [] number h = absurd (false≢true h)
linear_rule ends (r ∷ rs) zero h = omega arith
linear_rule ends (r ∷ rs) (suc number) h = omega (arith, linear_rule ends rs number h)

pub linear_there : (flat : Flat) (number : ℕ) → (form_in flat number).linear ≡ true → number < length flat.rules
linear_there flat number h = linear_rule flat.bounds.pairs flat.rules number h

-- ---- one rule more

pub get_less : (ts : List TwoSlots) (i : ℕ) (t : TwoSlots) → slice_get ts i ≡ Some t → i < length ts
get_less [] i t e = cc
get_less (x ∷ xs) zero t e = omega arith
get_less (x ∷ xs) (suc i) t e = omega (arith, get_less xs i t e)

get_last : (ts : List TwoSlots) (t : TwoSlots) → slice_get (ts ++ t ∷ []) (length ts) ≡ Some t
get_last [] t = refl
get_last (x ∷ xs) t = get_last xs t

get_before : (ts : List TwoSlots) (t : TwoSlots) (i : ℕ) (u : TwoSlots) → slice_get ts i ≡ Some u → slice_get (ts ++ t ∷ []) i ≡ Some u
get_before [] t i u e = cc
get_before (x ∷ xs) t zero u e = e
get_before (x ∷ xs) t (suc i) u e = get_before xs t i u e

record IsLast (ts : List TwoSlots) (t u : TwoSlots) (i : ℕ) : Type 0 where
  place : i ≡ length ts
  same : t ≡ u

get_which : (ts : List TwoSlots) (t : TwoSlots) (i : ℕ) (u : TwoSlots) → slice_get (ts ++ t ∷ []) i ≡ Some u → (slice_get ts i ≡ Some u) ⊎ IsLast ts t u i
get_which [] t zero u e = inr (record { place = refl; same = cc })
get_which [] t (suc i) u e = absurd (cc)
get_which (x ∷ xs) t zero u e = inl e
get_which (x ∷ xs) t (suc i) u e = later (get_which xs t i u e) where
  later : ((slice_get xs i ≡ Some u) ⊎ IsLast xs t u i) → (slice_get xs i ≡ Some u) ⊎ IsLast (x ∷ xs) t u (suc i)
  later (inl h) = inl h
  later (inr h) = inr (record { place = ap suc h.place; same = h.same })

pub list_start : (flat : Flat) → IsListed flat 0 []
list_start flat = record {
  each = λ i t e. absurd (none_some t e);
  all = λ rule one other less linear h. absurd (none_before rule less);
  ascending = λ i j t u e f h. absurd (none_some t e);
} where
  none_some : (t : TwoSlots) → None ≡ Some t → ⊥
  none_some t e = cc

  none_before : (n : ℕ) → n < 0 → ⊥
  none_before n h = omega (arith, h)

module _ (flat : Flat) (n m : ℕ) (ts : List TwoSlots) (next : m ≡ suc n) (is : IsListed flat n ts) where
  pub list_skip : NotTwo (form_in flat n) → IsListed flat m ts
  list_skip not = record {
    each = λ i t e. let h = is.each i t e in (h.0, omega (arith, h.1, next));
    all = λ rule one other less linear h. by_same rule n (IsIn ts rule)
        (λ e. absurd (not (subst (λ k. (form_in flat k).linear ≡ true) e linear) one other (subst (λ k. HasTwoSlots (form_in flat k) one other) e h)))
        (λ apart. is.all rule one other (earlier rule less apart) linear h);
    ascending = is.ascending;
  } where
    earlier : (rule : ℕ) → rule < m → rule ≢ n → rule < n
    earlier rule less apart = omega (arith, less, next, apart)

  module _ (t : TwoSlots) (are : IsTwoSlots flat t) (at : t.rule ≡ n) where
    each_more : (i : ℕ) (u : TwoSlots) → ((slice_get ts i ≡ Some u) ⊎ IsLast ts t u i) → IsTwoSlots flat u × (u.rule < m)
    each_more i u (inl e) = let h = is.each i u e in (h.0, omega (arith, h.1, next))
    each_more i u (inr h) = (subst (IsTwoSlots flat) h.same are, omega (arith, at, next, ap (λ (x : TwoSlots). x.rule) h.same))

    also : (rule : ℕ) → IsIn ts rule → IsIn (ts ++ t ∷ []) rule
    also rule h = record { place = h.place; entry = h.entry; at = get_before ts t h.place h.entry h.at; is = h.is }

    rises : (i j : ℕ) (u v : TwoSlots) → ((slice_get ts i ≡ Some u) ⊎ IsLast ts t u i) → ((slice_get ts j ≡ Some v) ⊎ IsLast ts t v j) → i < j → u.rule < v.rule
    rises i j u v (inl e) (inl f) less = is.ascending i j u v e f less
    rises i j u v (inl e) (inr f) less = let h = is.each i u e in omega (arith, h.1, at, ap (λ (x : TwoSlots). x.rule) f.same)
    rises i j u v (inr e) (inl f) less = absurd (omega (arith, e.place, get_less ts j v f, less))
    rises i j u v (inr e) (inr f) less = absurd (omega (arith, e.place, f.place, less))

    pub list_more : IsListed flat m (ts ++ t ∷ [])
    list_more = record {
      each = λ i u e. each_more i u (get_which ts t i u e);
      all = λ rule one other less linear h. by_same rule n (IsIn (ts ++ t ∷ []) rule)
          (λ e. record { place = length ts; entry = t; at = get_last ts t; is = at ∙ sym e })
          (λ apart. also rule (is.all rule one other (earlier rule less apart) linear h));
      ascending = λ i j u v e f less. rises i j u v (get_which ts t i u e) (get_which ts t j v f) less;
    } where
      earlier : (rule : ℕ) → rule < m → rule ≢ n → rule < n
      earlier rule less apart = omega (arith, less, next, apart)
