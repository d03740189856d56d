-- The verdict and the ends that are kept beside a reach are the plain ones.
use Rattle.std.proofs.Common.{◌≡◌, refl, ap, ap₂, List}
use Rattle.box_eval.specs.declared.rule.Rule.{Rule}
use Rattle.box_eval.specs.declared.rule.Term.{Term}
use Rattle.box_eval.specs.declared.rule.Rule.TheOpen.{Rule-F, Term-F, Always, Below, AtMost, Equal, Differ, Both, Either, Not, Whole, Slot, Sum, Less, Times, Truth}
use Rattle.box_eval.specs.declared.rule.Rule.TheFolds.{fold-Rule, fold-Term}
use Rattle.box_eval.specs.declared.bounds.Pair.{Pair}
use Rattle.box_eval.specs.declared.verdict.Verdict.{Verdict}
use Rattle.box_eval.specs.declared.verdict.Span.{Span}
use Rattle.box_eval.specs.Verdict.{term_span, rule_verdict, negated, both_of, either_of, below_of, at_most_of, equal_of, sum_of, less_of, times_of, truth_of, verdict_of, span_of}
use Rattle.box_eval.specs.Reach.{Seen, Judged, term_seen, rule_judged}
use Rattle.box_eval.proofs.Folds.{Two, rule_ones, rule_others, term_ones, term_others, rule_law, term_law}

abbrev SameVerdict : Judged → Verdict → Type 0
SameVerdict judged verdict = judged.verdict ≡ verdict

abbrev SameSpan : Seen → Span → Type 0
SameSpan seen span = seen.span ≡ span

abbrev A : Type 0
A = Two Judged Verdict SameVerdict

abbrev B : Type 0
B = Two Seen Span SameSpan

rule_same : (x : Rule-F A B) → SameVerdict (rule_judged (rule_ones Judged Verdict Seen Span SameVerdict SameSpan x)) (rule_verdict (rule_others Judged Verdict Seen Span SameVerdict SameSpan x))
rule_same Always = refl
rule_same (Below a b) = ap₂ below_of a.related b.related
rule_same (AtMost a b) = ap₂ at_most_of a.related b.related
rule_same (Equal a b) = ap₂ equal_of a.related b.related
rule_same (Differ a b) = ap negated (ap₂ equal_of a.related b.related)
rule_same (Both a b) = ap₂ both_of a.related b.related
rule_same (Either a b) = ap₂ either_of a.related b.related
rule_same (Not a) = ap negated a.related

module _ (ends : List Pair) where
  term_same : (x : Term-F A B) → SameSpan (term_seen ends (term_ones Judged Verdict Seen Span SameVerdict SameSpan x)) (term_span ends (term_others Judged Verdict Seen Span SameVerdict SameSpan x))
  term_same (Whole n) = refl
  term_same (Slot s) = refl
  term_same (Sum a b) = ap₂ sum_of a.related b.related
  term_same (Less a b) = ap₂ less_of a.related b.related
  term_same (Times a b) = ap₂ times_of a.related b.related
  term_same (Truth r) = ap truth_of r.related

  pub same_verdict : (rule : Rule) → (fold-Rule Judged Seen rule_judged (term_seen ends) rule).verdict ≡ verdict_of ends rule
  same_verdict = rule_law Judged Verdict Seen Span SameVerdict SameSpan rule_judged (term_seen ends) rule_verdict (term_span ends) rule_same term_same

  pub same_ends : (term : Term) → (fold-Term Judged Seen rule_judged (term_seen ends) term).span ≡ span_of ends term
  same_ends = term_law Judged Verdict Seen Span SameVerdict SameSpan rule_judged (term_seen ends) rule_verdict (term_span ends) rule_same term_same
