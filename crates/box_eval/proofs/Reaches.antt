-- No reach grows in a smaller box.
use Rattle.std.proofs.Common.{ℕ, ◌≤◌, max, List, arith}
use Rattle.std.proofs.lemmas.Int.{ints}
use Rattle.box_eval.specs.declared.rule.Rule.{Rule}
use Rattle.box_eval.specs.declared.rule.Term.{Term}
use Rattle.box_eval.specs.declared.rule.Rule.TheOpen.{Rule-F, Term-F, Always, Below, AtMost, Equal, Differ, Both, Either, Not, Whole, Slot, Sum, Less, Times, Truth}
use Rattle.box_eval.specs.declared.bounds.Pair.{Pair}
use Rattle.box_eval.specs.declared.verdict.Span.{Span}
use Rattle.box_eval.specs.Box.{IsBox, IsInside}
use Rattle.box_eval.specs.Verdict.{equal_of}
use Rattle.box_eval.specs.Reach.{Seen, Judged, magnitude, term_seen, rule_judged, reach_of, term_reach}
use Rattle.box_eval.proofs.Folds.{Two, rule_ones, rule_others, term_ones, term_others, rule_law, term_law}
use Rattle.box_eval.proofs.Smaller.{SpanIn, Keeps, sum_in, less_in, times_in, truth_in, below_keeps, at_most_keeps, equal_keeps, negated_keeps, both_keeps, either_keeps}

record JudgedIn (inner outer : Judged) : Type 0 where
  verdict : Keeps inner.verdict outer.verdict
  reach : inner.reach ≤ outer.reach

record SeenIn (inner outer : Seen) : Type 0 where
  span : SpanIn inner.span outer.span
  reach : inner.reach ≤ outer.reach

abbrev A : Type 0
A = Two Judged Judged JudgedIn

abbrev B : Type 0
B = Two Seen Seen SeenIn

magnitude_in : (s t : Span) → SpanIn s t → magnitude s ≤ magnitude t
magnitude_in s t h = omega (arith, ints)

-- a term's own ends, and what its parts reach
made : (s t : Span) (m n : ℕ) → SpanIn s t → m ≤ n → SeenIn (record { span = s; reach = max (magnitude s) m }) (record { span = t; reach = max (magnitude t) n })
made s t m n h le = record { span = h; reach = omega (arith, magnitude_in s t h) }

module _ (smaller ends : List Pair) (box : IsBox smaller) (inside : IsInside smaller ends) where
  rule_in : (x : Rule-F A B) → JudgedIn (rule_judged (rule_ones Judged Judged Seen Seen JudgedIn SeenIn x)) (rule_judged (rule_others Judged Judged Seen Seen JudgedIn SeenIn x))
  rule_in Always = record { verdict = record { yes = λ e. e; no = λ e. e }; reach = omega arith }
  rule_in (Below a b) = record { verdict = below_keeps a.one.span a.other.span b.one.span b.other.span a.related.span b.related.span; reach = omega (arith, a.related.reach, b.related.reach) }
  rule_in (AtMost a b) = record { verdict = at_most_keeps a.one.span a.other.span b.one.span b.other.span a.related.span b.related.span; reach = omega (arith, a.related.reach, b.related.reach) }
  rule_in (Equal a b) = record { verdict = equal_keeps a.one.span a.other.span b.one.span b.other.span a.related.span b.related.span; reach = omega (arith, a.related.reach, b.related.reach) }
  rule_in (Differ a b) = record {
    verdict = negated_keeps (equal_of a.one.span b.one.span) (equal_of a.other.span b.other.span) (equal_keeps a.one.span a.other.span b.one.span b.other.span a.related.span b.related.span);
    reach = omega (arith, a.related.reach, b.related.reach);
  }
  rule_in (Both a b) = record { verdict = both_keeps a.one.verdict a.other.verdict b.one.verdict b.other.verdict a.related.verdict b.related.verdict; reach = omega (arith, a.related.reach, b.related.reach) }
  rule_in (Either a b) = record { verdict = either_keeps a.one.verdict a.other.verdict b.one.verdict b.other.verdict a.related.verdict b.related.verdict; reach = omega (arith, a.related.reach, b.related.reach) }
  rule_in (Not a) = record { verdict = negated_keeps a.one.verdict a.other.verdict a.related.verdict; reach = a.related.reach }

  term_in : (x : Term-F A B) → SeenIn (term_seen smaller (term_ones Judged Judged Seen Seen JudgedIn SeenIn x)) (term_seen ends (term_others Judged Judged Seen Seen JudgedIn SeenIn x))
  term_in (Whole n) = made _ _ 0 0 (record { ordered = omega (arith, ints); above = omega (arith, ints); below = omega (arith, ints) }) (omega arith)
  term_in (Slot s) = made _ _ 0 0 (record { ordered = box.ordered s; above = inside.above s; below = inside.below s }) (omega arith)
  term_in (Sum a b) = made _ _ _ _ (sum_in a.one.span a.other.span b.one.span b.other.span a.related.span b.related.span) (omega (arith, a.related.reach, b.related.reach))
  term_in (Less a b) = made _ _ _ _ (less_in a.one.span a.other.span b.one.span b.other.span a.related.span b.related.span) (omega (arith, a.related.reach, b.related.reach))
  term_in (Times a b) = made _ _ _ _ (times_in a.one.span a.other.span b.one.span b.other.span a.related.span b.related.span) (omega (arith, a.related.reach, b.related.reach))
  term_in (Truth r) = made _ _ _ _ (truth_in r.one.verdict r.other.verdict r.related.verdict) r.related.reach

  pub smaller_reach : (rule : Rule) → reach_of smaller rule ≤ reach_of ends rule
  smaller_reach rule = (rule_law Judged Judged Seen Seen JudgedIn SeenIn rule_judged (term_seen smaller) rule_judged (term_seen ends) rule_in term_in rule).reach

  pub smaller_term_reach : (term : Term) → term_reach smaller term ≤ term_reach ends term
  smaller_term_reach term = (term_law Judged Judged Seen Seen JudgedIn SeenIn rule_judged (term_seen smaller) rule_judged (term_seen ends) rule_in term_in term).reach
