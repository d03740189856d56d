-- What the test of a sum comes to, from its parts.
use Rattle.std.proofs.Common.{◌≡◌, refl, sym, ap, ap₂, ◌∙◌, ℕ, suc, ◌+◌, ◌*◌, ◌≤◌, ◌^◌, Bool, true, false, ◌&&◌, if◌then◌else◌, nat_le, List, [], ◌∷◌, slice_get, Option, Some, None, ℤ, pos, ◌+ℤ◌, ◌-ℤ◌, ◌*ℤ◌, int_lt, to_z, of_z, arith}
use Rattle.std.specs.Prelude.{unsigned_abs}
use Rattle.std.specs.Int.{int_min, w128}
use Rattle.std.specs.Option.{option_map_or}
use Rattle.std.proofs.lemmas.Int.{ints, clamps}
use Rattle.std.proofs.Math.IntN.{zero-*ℤ}
use Rattle.box_eval.specs.declared.rule.Rule.{Rule}
use Rattle.box_eval.specs.declared.bounds.Pair.{Pair}
use Rattle.box_eval.specs.declared.flat.Flat.{Flat}
use Rattle.box_eval.specs.Box.{value_of, IsBox, IsInside}
use Rattle.linear_sums.specs.declared.pick.Pick.{Pick}
use Rattle.linear_sums.specs.Linear.{linear_form, no_form, is_linear, rule_weight, sum_form, sum_weight, least_in, is_false_form, is_false_sum}
use Rattle.linear_sums.specs.Steps.{HasRoom, IsAdded, IsTaken, size_in}
use Rattle.linear_sums.specs.Sums.{IsClear, kept, weight_of, weight_from}
use Rattle.linear_sums.proofs.Products.{one_times}
use Rattle.linear_sums.proofs.Taking.{least_same, size_same, by_zero}
use Rattle.linear_sums.proofs.Sizes.{sum_size}

-- ---- gathered from 0, and taken off

least_none_step : (f low high : ℤ) (n : ℤ) → f ≡ pos 0 → n ≡ pos 0 → int_min (f *ℤ low) (f *ℤ high) +ℤ n ≡ pos 0
least_none_step f low high n e g =
    let p : f *ℤ low ≡ pos 0 = ap (λ (m : ℤ). m *ℤ low) e ∙ zero-*ℤ low in
    let q : f *ℤ high ≡ pos 0 = ap (λ (m : ℤ). m *ℤ high) e ∙ zero-*ℤ high in
    omega (arith, ints, clamps, p, q, g)

least_none : (f : ℕ → ℤ) (ends : List Pair) → ((s : ℕ) → f s ≡ pos 0) → least_in f ends ≡ pos 0
least_none f [] none = refl
least_none f (p ∷ ps) none = least_none_step (f 0) p.low p.high _ (none 0) (least_none (λ s. f (suc s)) ps (λ s. none (suc s)))

pub clear_room : (sums : List ℤ) (more : ℕ) → IsClear sums → more ≤ 2 ^ 120 → HasRoom sums more
clear_room sums more clear small = λ slot. omega (arith, ints, clear slot, small)

module _ (old gathered : List ℤ) (factor : ℕ → ℤ) (clear : IsClear old) (added : IsAdded old gathered (pos 1) factor) where
  pub gathered_at : (slot : ℕ) → value_of gathered slot ≡ factor slot
  gathered_at slot = gathered_value (value_of old slot) (value_of gathered slot) (factor slot) (clear slot) (added.at slot) where
    gathered_value : (o g f : ℤ) → o ≡ pos 0 → g ≡ o +ℤ pos 1 *ℤ f → g ≡ f
    gathered_value o g f e h = omega (arith, ints, e, h, one_times f)

  pub taken_clear : (ends : List Pair) (new : List ℤ) (least : ℤ) → IsTaken ends gathered new factor least → IsClear new
  taken_clear ends new least taken = λ slot. by_zero (factor slot) (value_of new slot) (λ e. taken.stays slot (gathered_at slot ∙ e)) (λ some. taken.cleared slot some)

  pub taken_least : (ends : List Pair) (new : List ℤ) (least : ℤ) → IsTaken ends gathered new factor least → least ≡ least_in factor ends
  taken_least ends new least taken =
      let e = taken.taken ∙ least_same (value_of gathered) factor ends gathered_at in
      let z = least_none (value_of new) ends (taken_clear ends new least taken) in
      omega (arith, ints, e, z)

  pub gathered_size : (ends : List Pair) → size_in (value_of gathered) ends ≡ size_in factor ends
  gathered_size ends = size_same (value_of gathered) factor ends gathered_at

pub sum_small : (flat : Flat) (picks : List Pick) (ends : List Pair) (old gathered : List ℤ) → IsBox ends → IsInside ends flat.bounds.pairs → IsClear old
    → IsAdded old gathered (pos 1) (sum_form flat.bounds.pairs flat.rules picks).factor → sum_weight flat.bounds.pairs flat.rules picks ≤ 2 ^ 120 → size_in (value_of gathered) ends ≤ 2 ^ 120
sum_small flat picks ends old gathered box inside clear added small =
    omega (arith, gathered_size old gathered (sum_form flat.bounds.pairs flat.rules picks).factor clear added ends, sum_size ends flat.bounds.pairs box inside flat.rules picks, small)

pub least_small : (ends : List Pair) (old new : List ℤ) (factor : ℕ → ℤ) (least : ℤ) → IsTaken ends old new factor least → size_in (value_of old) ends ≤ 2 ^ 120 → unsigned_abs least ≤ 2 ^ 120
least_small ends old new factor least taken small = omega (arith, taken.smaller, small)

same_truth : (a b : Bool) → (a ≡ true → b ≡ true) → (b ≡ true → a ≡ true) → a ≡ b
same_truth true b f g = sym (f refl)
same_truth false true f g = g refl
same_truth false false f g = refl

less_forward : (x y n : ℤ) → n ≡ y -ℤ x → int_lt (pos 0) n ≡ true → int_lt x y ≡ true
less_forward x y n e h = grind (arith, ints)

less_back : (x y n : ℤ) → n ≡ y -ℤ x → int_lt x y ≡ true → int_lt (pos 0) n ≡ true
less_back x y n e h = grind (arith, ints)

test_forward : (constant gap least total found : ℤ) → total ≡ constant +ℤ gap → found ≡ least → int_lt (pos 0) (total +ℤ found) ≡ true → int_lt (pos 0 -ℤ gap) (constant +ℤ least) ≡ true
test_forward constant gap least total found e f = less_forward (pos 0 -ℤ gap) (constant +ℤ least) (total +ℤ found) (omega (arith, ints, e, f))

test_back : (constant gap least total found : ℤ) → total ≡ constant +ℤ gap → found ≡ least → int_lt (pos 0 -ℤ gap) (constant +ℤ least) ≡ true → int_lt (pos 0) (total +ℤ found) ≡ true
test_back constant gap least total found e f = less_back (pos 0 -ℤ gap) (constant +ℤ least) (total +ℤ found) (omega (arith, ints, e, f))

pub wrapped_small : (a b : ℤ) → unsigned_abs a ≤ 2 ^ 121 → unsigned_abs b ≤ 2 ^ 120 → to_z w128 (of_z w128 (to_z w128 (of_z w128 a) +ℤ to_z w128 (of_z w128 b))) ≡ a +ℤ b
wrapped_small a b h k = omega (arith, ints)

pub same_test : (constant gap least total found : ℤ) → total ≡ constant +ℤ gap → found ≡ least → int_lt (pos 0) (total +ℤ found) ≡ int_lt (pos 0 -ℤ gap) (constant +ℤ least)
same_test constant gap least total found e f = same_truth _ _ (test_forward constant gap least total found e f) (test_back constant gap least total found e f)

-- ---- what was weighed, pick by pick, is the weight of the sum

-- the weight of a sum, if each rule is linear and it is at most 2^120 with what was weighed before
abbrev whole_weight : Flat → ℕ → List Pick → Option ℕ
whole_weight flat total picks = if (sum_form flat.bounds.pairs flat.rules picks).linear then kept (total + sum_weight flat.bounds.pairs flat.rules picks) else None

none_some : (n : ℕ) → None ≡ Some n → ⊥
none_some n e = cc

within_limit : (n : ℕ) → nat_le n (2 ^ 120) ≡ true → n ≤ 2 ^ 120
within_limit n e = grind arith

limit_within : (n : ℕ) → n ≤ 2 ^ 120 → nat_le n (2 ^ 120) ≡ true
limit_within n h = grind arith

too_much : (n : ℕ) → nat_le n (2 ^ 120) ≡ false → kept n ≡ None
too_much n e = ap (λ (b : Bool). if b then Some n else None) e

kept_within : (n : ℕ) → n ≤ 2 ^ 120 → kept n ≡ Some n
kept_within n h = let e : nat_le n (2 ^ 120) ≡ true = grind arith in ap (λ (b : Bool). if b then Some n else None) e

add_more : (total w k v : ℕ) → (total + w * k) + v ≡ total + (k * w + v)
add_more total w k v = omega arith

over_more : (total w k v : ℕ) → nat_le (total + w * k) (2 ^ 120) ≡ false → nat_le (total + (k * w + v)) (2 ^ 120) ≡ false
over_more total w k v e = let f = add_more total w k v in grind arith

-- one pick more
by_kept : (rest b : Bool) (total w k v : ℕ) (next : ℕ → Option ℕ) → ((m : ℕ) → m ≤ 2 ^ 120 → next m ≡ (if rest then kept (m + v) else None)) → nat_le (total + w * k) (2 ^ 120) ≡ b
    → option_map_or next (if b then Some (total + w * k) else None) None ≡ (if rest then kept (total + (k * w + v)) else None)
by_kept rest true total w k v next told e = told (total + w * k) (within_limit (total + w * k) e) ∙ ap (λ (m : ℕ). if rest then kept m else None) (add_more total w k v)
by_kept true false total w k v next told e = sym (too_much (total + (k * w + v)) (over_more total w k v e))
by_kept false false total w k v next told e = refl

step_whole : (linear rest : Bool) (total w k v : ℕ) (next : ℕ → Option ℕ) → ((m : ℕ) → m ≤ 2 ^ 120 → next m ≡ (if rest then kept (m + v) else None))
    → option_map_or next (option_map_or (λ weight. kept (total + weight * k)) (if linear then Some w else None) None) None ≡ (if linear && rest then kept (total + (k * w + v)) else None)
step_whole false rest total w k v next told = refl
step_whole true rest total w k v next told = by_kept rest (nat_le (total + w * k) (2 ^ 120)) total w k v next told refl

step_rule : (ends : List Pair) (o : Option Rule) (rest : Bool) (total k v : ℕ) (next : ℕ → Option ℕ) → ((m : ℕ) → m ≤ 2 ^ 120 → next m ≡ (if rest then kept (m + v) else None))
    → option_map_or next (option_map_or (λ weight. kept (total + weight * k)) (option_map_or (weight_of ends) o None) None) None
    ≡ (if (option_map_or (linear_form ends) o no_form).linear && rest then kept (total + (k * option_map_or (rule_weight ends) o 1 + v)) else None)
step_rule ends None rest total k v next told = refl
step_rule ends (Some rule) rest total k v next told = step_whole (is_linear ends rule) rest total (rule_weight ends rule) k v next told

from_whole : (flat : Flat) (total : ℕ) (picks : List Pick) → total ≤ 2 ^ 120 → weight_from flat total picks ≡ whole_weight flat total picks
from_whole flat total [] small = sym (ap kept (omega arith) ∙ kept_within total small)
from_whole flat total (pick ∷ picks) small = step_rule flat.bounds.pairs (slice_get flat.rules pick.rule) (sum_form flat.bounds.pairs flat.rules picks).linear total pick.times
    (sum_weight flat.bounds.pairs flat.rules picks) (λ more. weight_from flat more picks) (λ m h. from_whole flat m picks h)

-- ---- the two answers

some_within : (n m : ℕ) (b : Bool) → nat_le n (2 ^ 120) ≡ b → (if b then Some n else None) ≡ Some m → b ≡ true
some_within n m true e f = refl
some_within n m false e f = cc

linear_of : (linear : Bool) (o : Option ℕ) (n : ℕ) → (if linear then o else None) ≡ Some n → (linear ≡ true) × (o ≡ Some n)
linear_of true o n e = (refl, e)
linear_of false o n e = absurd (none_some n e)

pub weighed_linear : (flat : Flat) (picks : List Pick) (n : ℕ) → weight_from flat 0 picks ≡ Some n → (sum_form flat.bounds.pairs flat.rules picks).linear ≡ true
weighed_linear flat picks n e = (linear_of (sum_form flat.bounds.pairs flat.rules picks).linear _ n (sym (from_whole flat 0 picks (omega arith)) ∙ e)).0

pub weighed_small : (flat : Flat) (picks : List Pick) (n : ℕ) → weight_from flat 0 picks ≡ Some n → sum_weight flat.bounds.pairs flat.rules picks ≤ 2 ^ 120
weighed_small flat picks n e =
    let w = sum_weight flat.bounds.pairs flat.rules picks in
    let f = (linear_of (sum_form flat.bounds.pairs flat.rules picks).linear (kept (0 + w)) n (sym (from_whole flat 0 picks (omega arith)) ∙ e)).1 in
    let g = within_limit (0 + w) (some_within (0 + w) n (nat_le (0 + w) (2 ^ 120)) refl f) in
    omega (arith, g)

false_of : (linear small test : Bool) → linear ≡ true → small ≡ true → linear && small && test ≡ test
false_of linear small test e f = ap₂ (λ (a b : Bool). a && b && test) e f

pub weighed_verdict : (flat : Flat) (picks : List Pick) (ends : List Pair) (n : ℕ) (answer : Bool) → weight_from flat 0 picks ≡ Some n
    → answer ≡ is_false_form (sum_form flat.bounds.pairs flat.rules picks) ends → answer ≡ is_false_sum flat picks ends
weighed_verdict flat picks ends n answer e f =
    f ∙ sym (false_of (sum_form flat.bounds.pairs flat.rules picks).linear (nat_le (sum_weight flat.bounds.pairs flat.rules picks) (2 ^ 120)) _
    (weighed_linear flat picks n e) (limit_within (sum_weight flat.bounds.pairs flat.rules picks) (weighed_small flat picks n e)))

none_of : (linear small test : Bool) (n : ℕ) → (if linear then (if small then Some n else None) else None) ≡ None → false ≡ linear && small && test
none_of true true test n e = absurd (none_some n (sym e))
none_of true false test n e = refl
none_of false true test n e = refl
none_of false false test n e = refl

pub unweighed_verdict : (flat : Flat) (picks : List Pick) (ends : List Pair) → weight_from flat 0 picks ≡ None → false ≡ is_false_sum flat picks ends
unweighed_verdict flat picks ends e =
    let w = sum_weight flat.bounds.pairs flat.rules picks in
    let same : 0 + w ≡ w = omega arith in
    none_of (sum_form flat.bounds.pairs flat.rules picks).linear (nat_le w (2 ^ 120)) _ w
    (sym (ap (λ (m : ℕ). if (sum_form flat.bounds.pairs flat.rules picks).linear then kept m else None) same) ∙ sym (from_whole flat 0 picks (omega arith)) ∙ e)
