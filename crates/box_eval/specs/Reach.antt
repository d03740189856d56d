-- The slots that a rule reads, and how large the numbers within it get in a box.
use Rattle.std.specs.Prelude.{ℕ, ◌+◌, max, List, unsigned_abs}
use Rattle.box_eval.specs.declared.rule.Rule.{Rule}
use Rattle.box_eval.specs.declared.rule.Term.{Term}
use Rattle.box_eval.specs.declared.rule.Rule.TheOpen.{Rule-F, Term-F, Always, Below, AtMost, Equal, Differ, Both, Either, Not, Whole, Slot, Sum, Less, Times, Truth}
use Rattle.box_eval.specs.declared.rule.Rule.TheFolds.{fold-Rule, fold-Term, map-Rule, map-Term}
use Rattle.box_eval.specs.declared.bounds.Pair.{Pair}
use Rattle.box_eval.specs.declared.verdict.Verdict.{Verdict}
use Rattle.box_eval.specs.declared.verdict.Span.{Span}
use Rattle.box_eval.specs.Verdict.{term_span, rule_verdict}

-- the greatest of the numbers of a term's parts
abbrev pub greatest_in_term : Term-F ℕ ℕ → ℕ
greatest_in_term (Whole n) = 0
greatest_in_term (Slot slot) = 0
greatest_in_term (Sum a b) = max a b
greatest_in_term (Less a b) = max a b
greatest_in_term (Times a b) = max a b
greatest_in_term (Truth rule) = rule

-- the greatest of the numbers of a rule's parts
abbrev pub greatest_in_rule : Rule-F ℕ ℕ → ℕ
greatest_in_rule Always = 0
greatest_in_rule (Below a b) = max a b
greatest_in_rule (AtMost a b) = max a b
greatest_in_rule (Equal a b) = max a b
greatest_in_rule (Differ a b) = max a b
greatest_in_rule (Both a b) = max a b
greatest_in_rule (Either a b) = max a b
greatest_in_rule (Not a) = a

-- ---- slots

-- one more than the slot, or the greatest of the parts
abbrev pub slots_in_term : Term-F ℕ ℕ → ℕ
slots_in_term (Slot slot) = slot + 1
slots_in_term term = greatest_in_term term

-- a number that each slot of a rule is below
abbrev pub slot_bound : Rule → ℕ
slot_bound = fold-Rule ℕ ℕ greatest_in_rule slots_in_term

-- a number that each slot of a term is below
abbrev pub term_slot_bound : Term → ℕ
term_slot_bound = fold-Term ℕ ℕ greatest_in_rule slots_in_term

-- ---- reach

-- a term's reach: the greater magnitude of its least and its greatest value
abbrev pub magnitude : Span → ℕ
magnitude span = max (unsigned_abs span.least) (unsigned_abs span.greatest)

-- a term's ends, with the greatest reach of it and the terms within it
pub record Seen : Type 0 where
  pub span : Span
  pub reach : ℕ

-- the verdict on a rule, with the greatest reach of the terms within it
pub record Judged : Type 0 where
  pub verdict : Verdict
  pub reach : ℕ

abbrev pub term_seen : List Pair → Term-F Judged Seen → Seen
term_seen ends term =
    let span = term_span ends (map-Term Judged Seen Verdict Span (λ j. j.verdict) (λ s. s.span) term) in
    let within = greatest_in_term (map-Term Judged Seen ℕ ℕ (λ j. j.reach) (λ s. s.reach) term) in
    record { span = span; reach = max (magnitude span) within }

abbrev pub rule_judged : Rule-F Judged Seen → Judged
rule_judged rule = record {
  verdict = rule_verdict (map-Rule Judged Seen Verdict Span (λ j. j.verdict) (λ s. s.span) rule);
  reach = greatest_in_rule (map-Rule Judged Seen ℕ ℕ (λ j. j.reach) (λ s. s.reach) rule);
}

-- the greatest reach of the terms within a rule, those inside other terms and inside truths too
abbrev pub reach_of : List Pair → Rule → ℕ
reach_of ends rule = (fold-Rule Judged Seen rule_judged (term_seen ends) rule).reach

-- the greatest reach of a term and of the terms within it
abbrev pub term_reach : List Pair → Term → ℕ
term_reach ends term = (fold-Term Judged Seen rule_judged (term_seen ends) term).reach
