-- A smaller box says True and False wherever the larger one does, and its ends of a term lie within the larger one's.
use Rattle.std.proofs.Common.{◌≡◌, refl, ap, List, ℤ, ◌*ℤ◌, ◌≤ℤ◌, arith}
use Rattle.std.proofs.lemmas.Int.{ints, clamps}
use Rattle.box_eval.specs.declared.rule.Rule.{Rule}
use Rattle.box_eval.specs.declared.rule.Term.{Term}
use Rattle.box_eval.specs.declared.rule.Rule.TheOpen.{Rule-F, Term-F, Always, Below, AtMost, Equal, Differ, Both, Either, Not, Whole, Slot, Sum, Less, Times, Truth}
use Rattle.box_eval.specs.declared.bounds.Pair.{Pair}
use Rattle.box_eval.specs.declared.verdict.Verdict.{Verdict}
use Rattle.box_eval.specs.declared.verdict.Verdict.TheVariants.{True, False, Open}
use Rattle.box_eval.specs.declared.verdict.Span.{Span}
use Rattle.box_eval.specs.Box.{IsBox, IsInside}
use Rattle.box_eval.specs.Verdict.{term_span, rule_verdict, negated, both_of, either_of, below_of, at_most_of, equal_of, sum_of, less_of, times_of, truth_of, least_of, greatest_of, verdict_of, span_of}
use Rattle.box_eval.proofs.Folds.{Two, rule_ones, rule_others, term_ones, term_others, rule_law, term_law}
use Rattle.box_eval.proofs.Numbers.{product_between}

-- ends within others
pub record SpanIn (inner outer : Span) : Type 0 where
  pub ordered : inner.least ≤ℤ inner.greatest
  pub above : outer.least ≤ℤ inner.least
  pub below : inner.greatest ≤ℤ outer.greatest

-- True and False stay
pub record Keeps (inner outer : Verdict) : Type 0 where
  pub yes : outer ≡ True → inner ≡ True
  pub no : outer ≡ False → inner ≡ False

-- ---- terms

pub sum_in : (a a' b b' : Span) → SpanIn a a' → SpanIn b b' → SpanIn (sum_of a b) (sum_of a' b')
sum_in a a' b b' h k = record { ordered = omega (arith, ints); above = omega (arith, ints); below = omega (arith, ints) }

pub less_in : (a a' b b' : Span) → SpanIn a a' → SpanIn b b' → SpanIn (less_of a b) (less_of a' b')
less_in a a' b b' h k = record { ordered = omega (arith, ints); above = omega (arith, ints); below = omega (arith, ints) }

four_in : (m p q r s n : ℤ) → (m ≤ℤ p) × (p ≤ℤ n) → (m ≤ℤ q) × (q ≤ℤ n) → (m ≤ℤ r) × (r ≤ℤ n) → (m ≤ℤ s) × (s ≤ℤ n)
    → (m ≤ℤ least_of p q r s) × (greatest_of p q r s ≤ℤ n)
four_in m p q r s n h i j k = (omega (arith, ints, clamps), omega (arith, ints, clamps))

pub times_in : (a a' b b' : Span) → SpanIn a a' → SpanIn b b' → SpanIn (times_of a b) (times_of a' b')
times_in a a' b b' h k =
    let al : a.least ≤ℤ a'.greatest = omega (arith, ints) in
    let ag : a'.least ≤ℤ a.greatest = omega (arith, ints) in
    let bl : b.least ≤ℤ b'.greatest = omega (arith, ints) in
    let bg : b'.least ≤ℤ b.greatest = omega (arith, ints) in
    let f = four_in (times_of a' b').least (a.least *ℤ b.least) (a.least *ℤ b.greatest) (a.greatest *ℤ b.least) (a.greatest *ℤ b.greatest) (times_of a' b').greatest
    (product_between a' b' a.least b.least h.above al k.above bl) (product_between a' b' a.least b.greatest h.above al bg k.below)
    (product_between a' b' a.greatest b.least ag h.below k.above bl) (product_between a' b' a.greatest b.greatest ag h.below bg k.below) in
    record { ordered = omega (arith, ints, clamps); above = f.0; below = f.1 }

pub truth_in : (v v' : Verdict) → Keeps v v' → SpanIn (truth_of v) (truth_of v')
truth_in v True k = rw (k.yes refl) (record { ordered = omega (arith, ints); above = omega (arith, ints); below = omega (arith, ints) })
truth_in v False k = rw (k.no refl) (record { ordered = omega (arith, ints); above = omega (arith, ints); below = omega (arith, ints) })
truth_in True Open k = record { ordered = omega (arith, ints); above = omega (arith, ints); below = omega (arith, ints) }
truth_in False Open k = record { ordered = omega (arith, ints); above = omega (arith, ints); below = omega (arith, ints) }
truth_in Open Open k = record { ordered = omega (arith, ints); above = omega (arith, ints); below = omega (arith, ints) }

-- ---- rules

pub below_keeps : (a a' b b' : Span) → SpanIn a a' → SpanIn b b' → Keeps (below_of a b) (below_of a' b')
below_keeps a a' b b' h k = record { yes = grind (arith, ints); no = grind (arith, ints) }

pub at_most_keeps : (a a' b b' : Span) → SpanIn a a' → SpanIn b b' → Keeps (at_most_of a b) (at_most_of a' b')
at_most_keeps a a' b b' h k = record { yes = grind (arith, ints); no = grind (arith, ints) }

pub equal_keeps : (a a' b b' : Span) → SpanIn a a' → SpanIn b b' → Keeps (equal_of a b) (equal_of a' b')
equal_keeps a a' b b' h k = record { yes = grind (arith, ints); no = grind (arith, ints) }

pub negated_keeps : (v v' : Verdict) → Keeps v v' → Keeps (negated v) (negated v')
negated_keeps v True k = record { yes = λ e. cc; no = λ e. ap negated (k.yes refl) }
negated_keeps v False k = record { yes = λ e. ap negated (k.no refl); no = λ e. cc }
negated_keeps v Open k = record { yes = λ e. cc; no = λ e. cc }

both_false : (v : Verdict) → both_of v False ≡ False
both_false True = refl
both_false False = refl
both_false Open = refl

either_true : (v : Verdict) → either_of v True ≡ True
either_true True = refl
either_true False = refl
either_true Open = refl

pub both_keeps : (a a' b b' : Verdict) → Keeps a a' → Keeps b b' → Keeps (both_of a b) (both_of a' b')
both_keeps a True b b' h k = rw (h.yes refl) (record { yes = k.yes; no = k.no })
both_keeps a False b b' h k = rw (h.no refl) (record { yes = λ e. e; no = λ e. e })
both_keeps a Open b True h k = record { yes = λ e. cc; no = λ e. cc }
both_keeps a Open b False h k = rw (k.no refl, both_false a) (record { yes = λ e. e; no = λ e. e })
both_keeps a Open b Open h k = record { yes = λ e. cc; no = λ e. cc }

pub either_keeps : (a a' b b' : Verdict) → Keeps a a' → Keeps b b' → Keeps (either_of a b) (either_of a' b')
either_keeps a True b b' h k = rw (h.yes refl) (record { yes = λ e. e; no = λ e. e })
either_keeps a False b b' h k = rw (h.no refl) (record { yes = k.yes; no = k.no })
either_keeps a Open b True h k = rw (k.yes refl, either_true a) (record { yes = λ e. e; no = λ e. e })
either_keeps a Open b False h k = record { yes = λ e. cc; no = λ e. cc }
either_keeps a Open b Open h k = record { yes = λ e. cc; no = λ e. cc }

-- ---- whole rules

abbrev A : Type 0
A = Two Verdict Verdict Keeps

abbrev B : Type 0
B = Two Span Span SpanIn

module _ (smaller ends : List Pair) (box : IsBox smaller) (inside : IsInside smaller ends) where
  rule_keeps : (x : Rule-F A B) → Keeps (rule_verdict (rule_ones Verdict Verdict Span Span Keeps SpanIn x)) (rule_verdict (rule_others Verdict Verdict Span Span Keeps SpanIn x))
  rule_keeps Always = record { yes = λ e. e; no = λ e. e }
  rule_keeps (Below a b) = below_keeps a.one a.other b.one b.other a.related b.related
  rule_keeps (AtMost a b) = at_most_keeps a.one a.other b.one b.other a.related b.related
  rule_keeps (Equal a b) = equal_keeps a.one a.other b.one b.other a.related b.related
  rule_keeps (Differ a b) = negated_keeps (equal_of a.one b.one) (equal_of a.other b.other) (equal_keeps a.one a.other b.one b.other a.related b.related)
  rule_keeps (Both a b) = both_keeps a.one a.other b.one b.other a.related b.related
  rule_keeps (Either a b) = either_keeps a.one a.other b.one b.other a.related b.related
  rule_keeps (Not a) = negated_keeps a.one a.other a.related

  term_keeps : (x : Term-F A B) → SpanIn (term_span smaller (term_ones Verdict Verdict Span Span Keeps SpanIn x)) (term_span ends (term_others Verdict Verdict Span Span Keeps SpanIn x))
  term_keeps (Whole n) = record { ordered = omega (arith, ints); above = omega (arith, ints); below = omega (arith, ints) }
  term_keeps (Slot s) = record { ordered = box.ordered s; above = inside.above s; below = inside.below s }
  term_keeps (Sum a b) = sum_in a.one a.other b.one b.other a.related b.related
  term_keeps (Less a b) = less_in a.one a.other b.one b.other a.related b.related
  term_keeps (Times a b) = times_in a.one a.other b.one b.other a.related b.related
  term_keeps (Truth r) = truth_in r.one r.other r.related

  pub smaller_keeps : (rule : Rule) → Keeps (verdict_of smaller rule) (verdict_of ends rule)
  smaller_keeps = rule_law Verdict Verdict Span Span Keeps SpanIn rule_verdict (term_span smaller) rule_verdict (term_span ends) rule_keeps term_keeps

  pub smaller_span : (term : Term) → SpanIn (span_of smaller term) (span_of ends term)
  smaller_span = term_law Verdict Verdict Span Span Keeps SpanIn rule_verdict (term_span smaller) rule_verdict (term_span ends) rule_keeps term_keeps
