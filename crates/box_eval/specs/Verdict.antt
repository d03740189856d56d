-- What a box says of a rule.
use Rattle.std.specs.Prelude.{◌&&◌, ◌||◌, List, ℤ, pos, ◌+ℤ◌, ◌-ℤ◌, ◌*ℤ◌, int_lt, int_le, if◌then◌else◌}
use Rattle.std.specs.Int.{int_min, int_max}
use Rattle.box_eval.specs.declared.rule.Rule.{Rule}
use Rattle.box_eval.specs.declared.rule.Term.{Term}
use Rattle.box_eval.specs.declared.rule.Rule.TheOpen.{Rule-F, Term-F, Always, Below, AtMost, Equal, Differ, Both, Either, Not, Whole, Slot, Sum, Less, Times, Truth}
use Rattle.box_eval.specs.declared.rule.Rule.TheFolds.{fold-Rule, fold-Term}
use Rattle.box_eval.specs.declared.bounds.Pair.{Pair}
use Rattle.box_eval.specs.declared.verdict.Verdict.{Verdict}
use Rattle.box_eval.specs.declared.verdict.Verdict.TheVariants.{True, False, Open}
use Rattle.box_eval.specs.declared.verdict.Span.{Span}
use Rattle.box_eval.specs.Box.{low_at, high_at}

-- True and False exchanged
abbrev pub negated : Verdict → Verdict
negated True = False
negated False = True
negated Open = Open

-- False if one is, True if both are, else Open
abbrev pub both_of : Verdict → Verdict → Verdict
both_of True b = b
both_of False b = False
both_of Open True = Open
both_of Open False = False
both_of Open Open = Open

-- True if one is, False if both are, else Open
abbrev pub either_of : Verdict → Verdict → Verdict
either_of True b = True
either_of False b = b
either_of Open True = True
either_of Open False = Open
either_of Open Open = Open

-- the greatest of the first against the least of the second, and the other way round
abbrev pub below_of : Span → Span → Verdict
below_of a b = if int_lt a.greatest b.least then True else if int_le b.greatest a.least then False else Open

abbrev pub at_most_of : Span → Span → Verdict
at_most_of a b = if int_le a.greatest b.least then True else if int_lt b.greatest a.least then False else Open

-- False if the ranges don't meet, True if both are one value
abbrev pub equal_of : Span → Span → Verdict
equal_of a b =
    if int_lt a.greatest b.least || int_lt b.greatest a.least then False
    else if int_le a.greatest b.least && int_le b.greatest a.least then True else Open

abbrev pub sum_of : Span → Span → Span
sum_of a b = record { least = a.least +ℤ b.least; greatest = a.greatest +ℤ b.greatest }

abbrev pub less_of : Span → Span → Span
less_of a b = record { least = a.least -ℤ b.greatest; greatest = a.greatest -ℤ b.least }

abbrev pub least_of : ℤ → ℤ → ℤ → ℤ → ℤ
least_of a b c d = int_min (int_min a b) (int_min c d)

abbrev pub greatest_of : ℤ → ℤ → ℤ → ℤ → ℤ
greatest_of a b c d = int_max (int_max a b) (int_max c d)

-- the least and the greatest of the four products of ends
abbrev pub times_of : Span → Span → Span
times_of a b =
    let p = a.least *ℤ b.least in
    let q = a.least *ℤ b.greatest in
    let r = a.greatest *ℤ b.least in
    let s = a.greatest *ℤ b.greatest in
    record { least = least_of p q r s; greatest = greatest_of p q r s }

-- 1 to 1, 0 to 0, or 0 to 1
abbrev pub truth_of : Verdict → Span
truth_of True = record { least = pos 1; greatest = pos 1 }
truth_of False = record { least = pos 0; greatest = pos 0 }
truth_of Open = record { least = pos 0; greatest = pos 1 }

-- the least and the greatest value of a term in a box, from those of its parts
abbrev pub term_span : List Pair → Term-F Verdict Span → Span
term_span ends (Whole n) = record { least = n; greatest = n }
term_span ends (Slot slot) = record { least = low_at ends slot; greatest = high_at ends slot }
term_span ends (Sum a b) = sum_of a b
term_span ends (Less a b) = less_of a b
term_span ends (Times a b) = times_of a b
term_span ends (Truth verdict) = truth_of verdict

-- the verdict on a rule, from those on its parts
abbrev pub rule_verdict : Rule-F Verdict Span → Verdict
rule_verdict Always = True
rule_verdict (Below a b) = below_of a b
rule_verdict (AtMost a b) = at_most_of a b
rule_verdict (Equal a b) = equal_of a b
rule_verdict (Differ a b) = negated (equal_of a b)
rule_verdict (Both a b) = both_of a b
rule_verdict (Either a b) = either_of a b
rule_verdict (Not a) = negated a

-- what a box says of a rule
abbrev pub verdict_of : List Pair → Rule → Verdict
verdict_of ends = fold-Rule Verdict Span rule_verdict (term_span ends)

-- the least and the greatest value of a term in a box
abbrev pub span_of : List Pair → Term → Span
span_of ends = fold-Term Verdict Span rule_verdict (term_span ends)
