-- A flat form whose ends and rules are small may be searched.
use Rattle.std.proofs.Common.{◌≡◌, refl, sym, ap, ◌∙◌, subst, ⊎_elim, ℕ, zero, suc, ◌+◌, ◌<◌, ◌≤◌, ◌^◌, List, [], ◌∷◌, length, slice_get, Some, get_or, ℤ, pos, negsuc, ◌≤ℤ◌, arith}
use Rattle.std.proofs.lemmas.Int.{ints}
use Rattle.std.proofs.lemmas.Bool.{cases_lt}
use Rattle.std.specs.Prelude.{unsigned_abs}
use Rattle.box_eval.specs.declared.rule.Rule.{Rule}
use Rattle.box_eval.specs.declared.bounds.Pair.{Pair}
use Rattle.box_eval.specs.declared.flat.Flat.{Flat}
use Rattle.box_eval.specs.Box.{low_at, high_at, IsBox}
use Rattle.box_eval.specs.Rules.{AllFit, IsFlat}
use Rattle.box_eval.proofs.Bounded.{bounded_reach}
use Rattle.search_tests.specs.Small.{IsSmall, AreSmall, IsSmallRule, AreSmallRules}

-- one more item with a property
pub each_more : {A : Type 0} (P : A → Type 0) (xs : List A) (i : ℕ) (x : A) → ((k : ℕ) (y : A) → k < i → slice_get xs k ≡ Some y → P y) → slice_get xs i ≡ Some x → P x → (k : ℕ) (y : A) → k < i + 1 → slice_get xs k ≡ Some y → P y
each_more P xs i x before is here k y less at = ⊎_elim
    (λ earlier. before k y earlier at)
    (λ past.
    let same : k ≡ i = omega arith in
    let e : Some y ≡ Some x = sym at ∙ (ap (slice_get xs) same ∙ is) in
    let f : y ≡ x = cc in
    subst P (sym f) here)
    (cases_lt k i)

pub item_at : {A : Type 0} (xs : List A) (i : ℕ) (x : A) → i < length xs → x ≡ get_or xs i x → slice_get xs i ≡ Some x
item_at [] i x less is = absurd (omega arith)
item_at (y ∷ ys) zero x less is = ap Some (sym is)
item_at (y ∷ ys) (suc i) x less is = item_at ys i x (omega arith) is

pub read_at : {A : Type 0} (xs : List A) (i : ℕ) (d : A) → i < length xs → slice_get xs i ≡ Some (get_or xs i d)
read_at [] i d less = absurd (omega arith)
read_at (y ∷ ys) zero d less = refl
read_at (y ∷ ys) (suc i) d less = read_at ys i d (omega arith)

pub index_below : {A : Type 0} (xs : List A) (k : ℕ) (x : A) → slice_get xs k ≡ Some x → k < length xs
index_below [] k x is = cc
index_below (y ∷ ys) zero x is = omega arith
index_below (y ∷ ys) (suc k) x is = omega (arith, index_below ys k x is)

-- the ends of a slot, also past the last
record IsSlot (low high : ℤ) : Type 0 where
  ordered : low ≤ℤ high
  low_size : unsigned_abs low ≤ 1000000000
  high_size : unsigned_abs high ≤ 1000000000

slot_at : (pairs : List Pair) → AreSmall pairs → (slot : ℕ) → IsSlot (low_at pairs slot) (high_at pairs slot)
slot_at [] all slot = record { ordered = omega (arith, ints); low_size = omega arith; high_size = omega arith }
slot_at (p ∷ ps) all zero = let s = all zero p refl in record { ordered = s.ordered; low_size = omega (arith, ints, s.ordered, s.low, s.high); high_size = omega (arith, ints, s.ordered, s.low, s.high) }
slot_at (p ∷ ps) all (suc slot) = slot_at ps (λ k pair is. all (suc k) pair is) slot

module _ (flat : Flat) (few_slots : length flat.bounds.pairs ≤ 1000000) (few_rules : length flat.rules ≤ 1000000) (pairs : AreSmall flat.bounds.pairs) (rules : AreSmallRules flat.rules (length flat.bounds.pairs)) where
  fits : (rs : List Rule) → AreSmallRules rs (length flat.bounds.pairs) → AllFit flat.bounds.pairs rs
  fits [] all = tt
  fits (r ∷ rs) all =
      let s = all zero r refl in
      let reach = bounded_reach flat.bounds.pairs 1000000000 (λ slot. (slot_at flat.bounds.pairs pairs slot).low_size) (λ slot. (slot_at flat.bounds.pairs pairs slot).high_size) r in
      (record { slots = s.few; reach = omega (arith, reach, s.small) }, fits rs (λ k rule is. all (suc k) rule is))

  pub small_flat : IsFlat flat
  small_flat = record {
    box = record { ordered = λ slot. (slot_at flat.bounds.pairs pairs slot).ordered };
    fit = fits flat.rules rules;
    few_slots = omega (arith, few_slots);
    few_rules = omega (arith, few_rules);
  }
