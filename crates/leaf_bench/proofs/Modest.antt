-- The rule that is judged stays within 1,000 in small boxes. It is false on the narrow box, and open on the wide one.
use Rattle.std.proofs.Common.{◌≡◌, refl, ap, ℕ, zero, suc, ◌+◌, ◌*◌, ◌<◌, ◌≤◌, max, List, length, ℤ, pos, ◌≤ℤ◌, arith}
use Rattle.std.specs.Prelude.{replicate}
use Rattle.std.proofs.lemmas.Int.{ints}
use Rattle.box_eval.specs.declared.rule.Rule.{Rule}
use Rattle.box_eval.specs.declared.rule.Rule.TheVariants.{Always, Both, Not}
use Rattle.box_eval.specs.declared.rule.Rule.TheOpen as O
use Rattle.box_eval.specs.declared.rule.Rule.TheFolds.{fold-Rule}
use Rattle.box_eval.specs.declared.bounds.Pair.{Pair}
use Rattle.box_eval.specs.declared.verdict.Verdict.{Verdict}
use Rattle.box_eval.specs.declared.verdict.Verdict.TheVariants.{True, False, Open}
use Rattle.box_eval.specs.Box.{pair, low_at, high_at}
use Rattle.box_eval.specs.Verdict.{verdict_of}
use Rattle.box_eval.specs.Rules.{CanJudge}
use Rattle.box_eval.specs.Reach.{slot_bound, reach_of, greatest_in_rule, slots_in_term, Judged, Seen, rule_judged, term_seen}
use Rattle.box_eval.proofs.Equations.{folds, fold-Always, fold-Both, fold-Not}
use Rattle.leaf_bench.specs.Small.{box_to, near, all_near, fifty, number_open}

-- ---- boxes

-- a box of nine slots, each of whose ends is from 0 to 100
pub record IsSmall (ends : List Pair) : Type 0 where
  pub long : length ends ≡ 9
  pub low : (slot : ℕ) → pos 0 ≤ℤ low_at ends slot
  pub low_most : (slot : ℕ) → low_at ends slot ≤ℤ pos 100
  pub high : (slot : ℕ) → pos 0 ≤ℤ high_at ends slot
  pub high_most : (slot : ℕ) → high_at ends slot ≤ℤ pos 100

record Within (v : ℤ) : Type 0 where
  least : pos 0 ≤ℤ v
  most : v ≤ℤ pos 100

low_within : (h : ℤ) (n slot : ℕ) → Within (low_at (replicate n (pair (pos 0) h)) slot)
low_within h zero slot = record { least = omega (arith, ints); most = omega (arith, ints) }
low_within h (suc n) zero = record { least = omega (arith, ints); most = omega (arith, ints) }
low_within h (suc n) (suc slot) = low_within h n slot

high_within : (h : ℤ) → Within h → (n slot : ℕ) → Within (high_at (replicate n (pair (pos 0) h)) slot)
high_within h w zero slot = record { least = omega (arith, ints); most = omega (arith, ints) }
high_within h w (suc n) zero = w
high_within h w (suc n) (suc slot) = high_within h w n slot

small_box : (h : ℤ) → pos 0 ≤ℤ h → h ≤ℤ pos 100 → IsSmall (box_to h)
small_box h least most = record {
  long = refl;
  low = λ slot. (low_within h 9 slot).least;
  low_most = λ slot. (low_within h 9 slot).most;
  high = λ slot. (high_within h (record { least = least; most = most }) 9 slot).least;
  high_most = λ slot. (high_within h (record { least = least; most = most }) 9 slot).most;
}

-- ---- rules

-- a rule over nine slots, whose terms stay within 1,000 in each such box
pub record IsModest (rule : Rule) : Type 0 where
  pub slots : slot_bound rule ≤ 9
  pub reach : (ends : List Pair) → IsSmall ends → reach_of ends rule ≤ 1000

always_reach : (ends : List Pair) → reach_of ends Always ≡ 0
always_reach ends = ap (λ j. j.reach) (fold-Always Judged Seen rule_judged (term_seen ends))

both_reach : (ends : List Pair) (a b : Rule) → reach_of ends (Both a b) ≡ max (reach_of ends a) (reach_of ends b)
both_reach ends a b = ap (λ j. j.reach) (fold-Both Judged Seen rule_judged (term_seen ends) a b)

not_reach : (ends : List Pair) (a : Rule) → reach_of ends (Not a) ≡ reach_of ends a
not_reach ends a = ap (λ j. j.reach) (fold-Not Judged Seen rule_judged (term_seen ends) a)

modest_always : IsModest Always
modest_always = record { slots = omega (arith, fold-Always ℕ ℕ greatest_in_rule slots_in_term); reach = λ ends small. omega (arith, always_reach ends) }

modest_both : (a b : Rule) → IsModest a → IsModest b → IsModest (Both a b)
modest_both a b m n = record {
  slots = omega (arith, m.slots, n.slots, fold-Both ℕ ℕ greatest_in_rule slots_in_term a b);
  reach = λ ends small. omega (arith, m.reach ends small, n.reach ends small, both_reach ends a b);
}

modest_not : (a : Rule) → IsModest a → IsModest (Not a)
modest_not a m = record {
  slots = omega (arith, m.slots, fold-Not ℕ ℕ greatest_in_rule slots_in_term a);
  reach = λ ends small. omega (arith, m.reach ends small, not_reach ends a);
}

module _ (ends : List Pair) (slot : ℕ) where
  near_judged : fold-Rule Judged Seen rule_judged (term_seen ends) (near slot)
      ≡ rule_judged (O.AtMost (term_seen ends (O.Slot slot)) (term_seen ends (O.Sum (term_seen ends (O.Slot (slot + 1))) (term_seen ends (O.Whole (pos 9))))))
  near_judged = simp folds

  near_reach : IsSmall ends → reach_of ends (near slot) ≤ 1000
  near_reach small = omega (
    arith,
    ints,
    ap (λ j. j.reach) near_judged,
    small.low slot,
    small.low_most slot,
    small.high slot,
    small.high_most slot,
    small.low (slot + 1),
    small.low_most (slot + 1),
    small.high (slot + 1),
    small.high_most (slot + 1),
  )

near_slots : (slot : ℕ) → slot_bound (near slot) ≡ max (slot + 1) (max (slot + 1 + 1) 0)
near_slots slot = simp folds

modest_near : (slot : ℕ) → slot < 8 → IsModest (near slot)
modest_near slot less = record {
  slots = omega (arith, near_slots slot);
  reach = λ ends small. near_reach ends slot small;
}

modest_all : (n : ℕ) → n ≤ 8 → IsModest (all_near n)
modest_all zero few = modest_always
modest_all (suc n) few = modest_both (near n) (all_near n) (modest_near n (omega (arith, few))) (modest_all n (omega (arith, few)))

modest_fifty : IsModest fifty
modest_fifty = modest_not (all_near 8) (modest_all 8 (omega arith))

pub can_judge : (h : ℤ) → pos 0 ≤ℤ h → h ≤ℤ pos 100 → CanJudge (box_to h) fifty
can_judge h least most =
    let small = small_box h least most in
    record { slots = omega (arith, small.long, modest_fifty.slots); reach = omega (arith, modest_fifty.reach (box_to h) small) }

-- ---- verdicts

pub one_at_most : (verdict : Verdict) → number_open verdict ≤ 1
one_at_most True = omega arith
one_at_most False = omega arith
one_at_most Open = omega arith

-- one round more
pub round_more : (count n a b x y : ℕ) → count ≡ n * (a + b) → x ≡ a → y ≡ b → count + x + y ≡ (n + 1) * (a + b)
round_more count n a b x y is p q = omega (arith, is, p, q)

pub narrow_verdict : verdict_of (box_to (pos 3)) fifty ≡ False
narrow_verdict = simp folds

pub wide_verdict : verdict_of (box_to (pos 20)) fifty ≡ Open
wide_verdict = simp folds

-- one open verdict in each round
pub one_a_round : (count rounds : ℕ) → count ≡ rounds * (number_open (verdict_of (box_to (pos 3)) fifty) + number_open (verdict_of (box_to (pos 20)) fifty)) → count ≡ rounds
one_a_round count rounds is = let known = rw (narrow_verdict, wide_verdict) at is in omega (arith, known)
