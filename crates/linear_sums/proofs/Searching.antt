-- Slots with a factor, found one after the other.
use Rattle.std.proofs.Common.{◌≡◌, ◌≢◌, ◌⊎◌, inl, inr, refl, sym, ap, ◌∙◌, subst, ℕ, ◌<◌, if◌then◌else◌, Bool, true, false, nat_eq, List, length, length-set, slice_set, ℤ, pos, arith}
use Rattle.box_eval.specs.Box.{value_of}
use Rattle.linear_sums.specs.declared.seen.Seen.{Seen}
use Rattle.linear_sums.specs.declared.seen.Seen.TheVariants.{Nothing, One, Two, More}
use Rattle.linear_sums.specs.Linear.{TermForm, factor_of}
use Rattle.linear_sums.specs.Splits.{seen_with, SplitsOne, SplitsTwo, NoTwo, Splits, IsSearched}
use Rattle.linear_sums.proofs.Gathering.{set_other, set_there}
use Rattle.linear_sums.proofs.Taking.{by_zero}

-- ---- one slot more

by_equal : (b : Bool) (m n : ℕ) (P : Type 0) → nat_eq m n ≡ b → (m ≡ n → P) → (m ≢ n → P) → P
by_equal true m n P e same differ = same (grind arith)
by_equal false m n P e same differ = differ (λ is. grind arith)

-- numbers are equal or not
pub by_same : (m n : ℕ) (P : Type 0) → (m ≡ n → P) → (m ≢ n → P) → P
by_same m n P same differ = by_equal (nat_eq m n) m n P refl same differ

-- a slot with a factor is one of two beside which none has one
pub among : (f : ℕ → ℤ) (one other s : ℕ) → ((slot : ℕ) → slot ≢ one → slot ≢ other → f slot ≡ pos 0) → f s ≢ pos 0 → (s ≡ one) ⊎ (s ≡ other)
among f one other s none some = by_same s one ((s ≡ one) ⊎ (s ≡ other)) (λ e. inl e)
    (λ n. by_same s other ((s ≡ one) ⊎ (s ≡ other)) (λ e. inr e) (λ m. absurd (some (none s n m))))

-- three numbers that differ aren't all among two
three : (a b c x y : ℕ) → a ≢ b → a ≢ c → b ≢ c → ((a ≡ x) ⊎ (a ≡ y)) → ((b ≡ x) ⊎ (b ≡ y)) → ((c ≡ x) ⊎ (c ≡ y)) → ⊥
three a b c x y p q r (inl d) (inl e) h = p (d ∙ sym e)
three a b c x y p q r (inr d) (inr e) h = p (d ∙ sym e)
three a b c x y p q r (inl d) (inr e) (inl h) = q (d ∙ sym h)
three a b c x y p q r (inl d) (inr e) (inr h) = r (e ∙ sym h)
three a b c x y p q r (inr d) (inl e) (inl h) = r (e ∙ sym h)
three a b c x y p q r (inr d) (inl e) (inr h) = q (d ∙ sym h)

module _ (f left new : ℕ → ℤ) (slot : ℕ) (p : ℤ) (there : p ≡ left slot) (some : p ≢ pos 0) (clear : new slot ≡ pos 0) (same : (s : ℕ) → s ≢ slot → new s ≡ left s) where
  away : (s : ℕ) → left s ≡ pos 0 → s ≢ slot
  away s e same = some (there ∙ sym (ap left same) ∙ e)

  one_more : (a : ℕ) (q : ℤ) → SplitsOne f left a q → SplitsTwo f new a q slot p
  one_more a q is = record {
    apart = away a is.clear_first;
    is_first = is.is_first;
    is_second = there ∙ is.others slot (λ e. away a is.clear_first (sym e));
    some_first = is.some_first;
    some_second = some;
    clear_first = same a (away a is.clear_first) ∙ is.clear_first;
    clear_second = clear;
    others = λ s not_a not_slot. same s not_slot ∙ is.others s not_a;
  }

  two_more : (a : ℕ) (q : ℤ) (b : ℕ) (r : ℤ) → SplitsTwo f left a q b r → NoTwo f
  two_more a q b r is x y none =
      let not_a = away a is.clear_first in
      let not_b = away b is.clear_second in
      three a b slot x y is.apart not_a not_b
      (among f x y a none (λ e. is.some_first (is.is_first ∙ e)))
      (among f x y b none (λ e. is.some_second (is.is_second ∙ e)))
      (among f x y slot none (λ e. some (there ∙ is.others slot (λ h. not_a (sym h)) (λ h. not_b (sym h)) ∙ e)))

  pub splits_more : (seen : Seen) → Splits f left seen → Splits f new (seen_with seen slot p)
  splits_more Nothing is = record { is_first = there ∙ is slot; some_first = some; clear_first = clear; others = λ s n. same s n ∙ is s }
  splits_more (One a q) is = one_more a q is
  splits_more (Two a q b r) is = two_more a q b r is
  splits_more More is = is

splits_same : (f left new : ℕ → ℤ) → ((s : ℕ) → new s ≡ left s) → (seen : Seen) → Splits f left seen → Splits f new seen
splits_same f left new same Nothing is = λ s. same s ∙ is s
splits_same f left new same (One a q) is = record { is_first = is.is_first; some_first = is.some_first; clear_first = same a ∙ is.clear_first; others = λ s n. same s ∙ is.others s n }
splits_same f left new same (Two a q b r) is = record {
  apart = is.apart;
  is_first = is.is_first;
  is_second = is.is_second;
  some_first = is.some_first;
  some_second = is.some_second;
  clear_first = same a ∙ is.clear_first;
  clear_second = same b ∙ is.clear_second;
  others = λ s n m. same s ∙ is.others s n m;
}
splits_same f left new same More is = is

-- ---- steps

factor_here : (slot s : ℕ) → factor_of slot s ≢ pos 0 → s ≡ slot
factor_here slot s h = told (nat_eq slot s) refl h where
  told : (b : Bool) → nat_eq slot s ≡ b → (if b then pos 1 else pos 0) ≢ pos 0 → s ≡ slot
  told true e h = grind arith
  told false e h = absurd (h refl)

unequal : (m n : ℕ) → m ≢ n → nat_eq n m ≡ false
unequal m n h = by_bool (nat_eq n m) refl where
  by_bool : (b : Bool) → nat_eq n m ≡ b → b ≡ false
  by_bool true e = absurd (h (grind arith))
  by_bool false e = refl

equal : (n : ℕ) → nat_eq n n ≡ true
equal n = grind arith

pub searched_slot : (old : List ℤ) (slot : ℕ) (p : ℤ) (seen : Seen) → slot < length old → p ≡ value_of old slot → p ≢ pos 0
    → IsSearched old (slice_set old slot (pos 0)) (factor_of slot) seen (seen_with seen slot p)
searched_slot old slot p seen there is some =
    let clear = set_there old slot slot (pos 0) there (equal slot) in
    let same : (s : ℕ) → s ≢ slot → value_of (slice_set old slot (pos 0)) s ≡ value_of old s = λ s n. set_other old slot s (pos 0) (unequal s slot n) in
    record {
      as_long = length-set old slot (pos 0);
      splits = λ all before. splits_more all (value_of old) (value_of (slice_set old slot (pos 0))) slot p is some clear same seen before;
      cleared = λ s h. ap (value_of (slice_set old slot (pos 0))) (factor_here slot s h) ∙ clear;
      stays = λ s e. by_same s slot (value_of (slice_set old slot (pos 0)) s ≡ pos 0)
          (λ h. ap (value_of (slice_set old slot (pos 0))) h ∙ clear) (λ n. same s n ∙ e);
    }

pub searched_none : (old : List ℤ) (slot : ℕ) (seen : Seen) → value_of old slot ≡ pos 0 → IsSearched old old (factor_of slot) seen seen
searched_none old slot seen clear = record {
  as_long = refl;
  splits = λ all before. before;
  cleared = λ s h. ap (value_of old) (factor_here slot s h) ∙ clear;
  stays = λ s e. e;
}

pub searched_nothing : (old : List ℤ) (factor : ℕ → ℤ) (seen : Seen) → ((s : ℕ) → factor s ≡ pos 0) → IsSearched old old factor seen seen
searched_nothing old factor seen none = record { as_long = refl; splits = λ all before. before; cleared = λ s h. absurd (h (none s)); stays = λ s e. e }

pub searched_both : (old mid new : List ℤ) (f g h : ℕ → ℤ) (before between after : Seen) → IsSearched old mid f before between → IsSearched mid new g between after
    → ((slot : ℕ) → f slot ≡ pos 0 → g slot ≡ pos 0 → h slot ≡ pos 0) → IsSearched old new h before after
searched_both old mid new f g h before between after one other none = record {
  as_long = other.as_long ∙ one.as_long;
  splits = λ all is. other.splits all (one.splits all is);
  cleared = λ slot some. by_zero (f slot) (value_of new slot)
      (λ e. by_zero (g slot) (value_of new slot) (λ e'. absurd (some (none slot e e'))) (λ n. other.cleared slot n))
      (λ n. other.stays slot (one.cleared slot n));
  stays = λ slot e. other.stays slot (one.stays slot e);
}

-- factors by another form that is the same
pub searched_form : (old new : List ℤ) (form joined : TermForm) (before after : Seen) → form ≡ joined → IsSearched old new joined.factor before after → IsSearched old new form.factor before after
searched_form old new form joined before after e is = subst (λ (f : TermForm). IsSearched old new f.factor before after) (sym e) is
