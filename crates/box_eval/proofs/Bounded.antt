-- No number within a rule is greater than its bound.
use Rattle.std.proofs.Common.{◌≡◌, sym, ap, ℕ, ◌+◌, ◌*◌, ◌≤◌, max, List, ℤ, ◌*ℤ◌, arith}
use Rattle.std.proofs.lemmas.Int.{ints, clamps, unsigned_abs-mul}
use Rattle.std.proofs.Math.Nat.{mul-le-mul_left, mul-le-mul_right, le-mul_of_pos_right}
use Rattle.std.specs.Prelude.{unsigned_abs}
use Rattle.box_eval.specs.declared.rule.Rule.{Rule}
use Rattle.box_eval.specs.declared.rule.Rule.TheOpen.{Rule-F, Term-F, Always, Below, AtMost, Equal, Differ, Both, Either, Not, Whole, Slot, Sum, Less, Times, Truth}
use Rattle.box_eval.specs.declared.bounds.Pair.{Pair}
use Rattle.box_eval.specs.declared.verdict.Span.{Span}
use Rattle.box_eval.specs.declared.verdict.Verdict.{Verdict}
use Rattle.box_eval.specs.declared.verdict.Verdict.TheVariants.{True, False, Open}
use Rattle.box_eval.specs.Box.{low_at, high_at}
use Rattle.box_eval.specs.Verdict.{sum_of, less_of, times_of, truth_of, least_of, greatest_of}
use Rattle.box_eval.specs.Reach.{Seen, Judged, magnitude, greatest_in_rule, term_seen, rule_judged, reach_of}
use Rattle.box_eval.specs.Bounded.{bound_in_term, rule_bound}
use Rattle.box_eval.proofs.Folds.{Two, rule_ones, rule_others, term_ones, term_others, rule_law}

-- a rule's reach is within its bound
record RuleWithin (judged : Judged) (bound : ℕ) : Type 0 where
  reach : judged.reach ≤ bound

-- a term's own size and its reach are within its bound, which is at least 1
record TermWithin (seen : Seen) (bound : ℕ) : Type 0 where
  size : magnitude seen.span ≤ bound
  reach : seen.reach ≤ bound
  one : 1 ≤ bound

abbrev A : Type 0
A = Two Judged ℕ RuleWithin

abbrev B : Type 0
B = Two Seen ℕ TermWithin

product_within : (a b : ℤ) (m n : ℕ) → unsigned_abs a ≤ m → unsigned_abs b ≤ n → unsigned_abs (a *ℤ b) ≤ m * n
product_within a b m n h k = rw (unsigned_abs-mul a b) (omega (arith, mul-le-mul_right (unsigned_abs b) h, mul-le-mul_left m k))

four_within : (a b c d : ℤ) (m : ℕ) → unsigned_abs a ≤ m → unsigned_abs b ≤ m → unsigned_abs c ≤ m → unsigned_abs d ≤ m → magnitude (record { least = least_of a b c d; greatest = greatest_of a b c d }) ≤ m
four_within a b c d m h i j k = omega (arith, ints, clamps)

times_within : (s t : Span) (m n : ℕ) → magnitude s ≤ m → magnitude t ≤ n → magnitude (times_of s t) ≤ m * n
times_within s t m n h k =
    let p = product_within s.least t.least m n (omega arith) (omega arith) in
    let q = product_within s.least t.greatest m n (omega arith) (omega arith) in
    let r = product_within s.greatest t.least m n (omega arith) (omega arith) in
    let u = product_within s.greatest t.greatest m n (omega arith) (omega arith) in
    four_within (s.least *ℤ t.least) (s.least *ℤ t.greatest) (s.greatest *ℤ t.least) (s.greatest *ℤ t.greatest) (m * n) p q r u

-- a part is no greater than a product of bounds
part_left : (m n : ℕ) → 1 ≤ n → m ≤ m * n
part_left m n h = le-mul_of_pos_right m h

part_right : (m n : ℕ) → 1 ≤ m → n ≤ m * n
part_right m n h = omega (arith, mul-le-mul_right n h)

truth_within : (v : Verdict) → magnitude (truth_of v) ≤ 1
truth_within True = omega (arith, ints)
truth_within False = omega (arith, ints)
truth_within Open = omega (arith, ints)

module _ (ends : List Pair) (most : ℕ) (low : (slot : ℕ) → unsigned_abs (low_at ends slot) ≤ most) (high : (slot : ℕ) → unsigned_abs (high_at ends slot) ≤ most) where
  rule_within : (x : Rule-F A B) → RuleWithin (rule_judged (rule_ones Judged ℕ Seen ℕ RuleWithin TermWithin x)) (greatest_in_rule (rule_others Judged ℕ Seen ℕ RuleWithin TermWithin x))
  rule_within Always = record { reach = omega arith }
  rule_within (Below a b) = record { reach = omega (arith, a.related.reach, b.related.reach) }
  rule_within (AtMost a b) = record { reach = omega (arith, a.related.reach, b.related.reach) }
  rule_within (Equal a b) = record { reach = omega (arith, a.related.reach, b.related.reach) }
  rule_within (Differ a b) = record { reach = omega (arith, a.related.reach, b.related.reach) }
  rule_within (Both a b) = record { reach = omega (arith, a.related.reach, b.related.reach) }
  rule_within (Either a b) = record { reach = omega (arith, a.related.reach, b.related.reach) }
  rule_within (Not a) = record { reach = a.related.reach }

  sum_within : (s t : Span) (m n : ℕ) → magnitude s ≤ m → magnitude t ≤ n → magnitude (sum_of s t) ≤ m + n
  sum_within s t m n h k = omega (arith, ints)

  less_within : (s t : Span) (m n : ℕ) → magnitude s ≤ m → magnitude t ≤ n → magnitude (less_of s t) ≤ m + n
  less_within s t m n h k = omega (arith, ints)

  term_within : (x : Term-F A B) → TermWithin (term_seen ends (term_ones Judged ℕ Seen ℕ RuleWithin TermWithin x)) (bound_in_term most (term_others Judged ℕ Seen ℕ RuleWithin TermWithin x))
  term_within (Whole n) = record { size = omega arith; reach = omega arith; one = omega arith }
  term_within (Slot s) = record { size = omega (arith, low s, high s); reach = omega (arith, low s, high s); one = omega arith }
  term_within (Sum a b) =
      let size = sum_within a.one.span b.one.span a.other b.other a.related.size b.related.size in
      record { size = size; reach = omega (arith, size, a.related.reach, b.related.reach); one = omega (arith, a.related.one) }
  term_within (Less a b) =
      let size = less_within a.one.span b.one.span a.other b.other a.related.size b.related.size in
      record { size = size; reach = omega (arith, size, a.related.reach, b.related.reach); one = omega (arith, a.related.one) }
  term_within (Times a b) =
      let size = times_within a.one.span b.one.span a.other b.other a.related.size b.related.size in
      let left = part_left a.other b.other b.related.one in
      let right = part_right a.other b.other a.related.one in
      record { size = size; reach = omega (arith, size, a.related.reach, b.related.reach, left, right); one = omega (arith, a.related.one, left) }
  term_within (Truth r) =
      let size = truth_within r.one.verdict in
      record { size = omega (arith, size); reach = omega (arith, size, r.related.reach); one = omega arith }

  pub bounded_reach : (rule : Rule) → reach_of ends rule ≤ rule_bound most rule
  bounded_reach rule = (rule_law Judged ℕ Seen ℕ RuleWithin TermWithin rule_judged (term_seen ends) greatest_in_rule (bound_in_term most) rule_within term_within rule).reach
