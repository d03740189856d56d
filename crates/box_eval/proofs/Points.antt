-- In the box of one point the verdict is the truth there, and a term's ends are its value twice.
use Rattle.std.proofs.Common.{◌≡◌, ◌≢◌, refl, sym, ap, ap₂, ◌∙◌, subst, ℕ, suc, zero, List, [], ◌∷◌, length, map, Bool, true, false, not, ◌&&◌, ◌||◌, ℤ, ◌*ℤ◌, arith}
use Rattle.std.proofs.lemmas.Int.{ints, clamps}
use Rattle.box_eval.specs.declared.rule.Rule.{Rule}
use Rattle.box_eval.specs.declared.rule.Term.{Term}
use Rattle.box_eval.specs.declared.rule.Rule.TheOpen.{Rule-F, Term-F, Always, Below, AtMost, Equal, Differ, Both, Either, Not, Whole, Slot, Sum, Less, Times, Truth}
use Rattle.box_eval.specs.declared.bounds.Pair.{Pair}
use Rattle.box_eval.specs.declared.verdict.Verdict.{Verdict}
use Rattle.box_eval.specs.declared.verdict.Verdict.TheVariants.{True, False, Open}
use Rattle.box_eval.specs.declared.verdict.Span.{Span}
use Rattle.box_eval.specs.Box.{pair, low_at, high_at, value_of, IsBox, IsInside, IsPointOf, IsOnePoint, box_of}
use Rattle.box_eval.specs.Truth.{term_value, rule_truth, as_number, is_same, true_at, value_at}
use Rattle.box_eval.specs.Verdict.{term_span, rule_verdict, negated, both_of, either_of, below_of, at_most_of, equal_of, sum_of, less_of, times_of, truth_of, verdict_of, span_of}
use Rattle.box_eval.proofs.Folds.{Two, rule_ones, rule_others, term_ones, term_others, rule_law, term_law}
use Rattle.box_eval.proofs.Numbers.{span}
use Rattle.box_eval.proofs.Smaller.{Keeps, smaller_keeps}

-- a truth as a verdict
abbrev pub told : Bool → Verdict
told true = True
told false = False

-- a value as ends
abbrev pub twice : ℤ → Span
twice n = span n n

-- ---- the ends of the box of a point

pub low_box_of : (point : List ℤ) (slot : ℕ) → low_at (box_of point) slot ≡ value_of point slot
low_box_of [] slot = refl
low_box_of (v ∷ vs) zero = refl
low_box_of (v ∷ vs) (suc slot) = low_box_of vs slot

pub high_box_of : (point : List ℤ) (slot : ℕ) → high_at (box_of point) slot ≡ value_of point slot
high_box_of [] slot = refl
high_box_of (v ∷ vs) zero = refl
high_box_of (v ∷ vs) (suc slot) = high_box_of vs slot

-- ---- terms

pub times_twice : (a b : ℤ) → times_of (twice a) (twice b) ≡ twice (a *ℤ b)
times_twice a b = ap₂ span (omega (arith, ints, clamps)) (omega (arith, ints, clamps))

truth_twice : (b : Bool) → truth_of (told b) ≡ twice (as_number b)
truth_twice true = refl
truth_twice false = refl

-- ---- rules

below_told : (a b : ℤ) → below_of (twice a) (twice b) ≡ told (rule_truth (Below a b))
below_told a b = grind (arith, ints)

at_most_told : (a b : ℤ) → at_most_of (twice a) (twice b) ≡ told (rule_truth (AtMost a b))
at_most_told a b = grind (arith, ints)

equal_told : (a b : ℤ) → equal_of (twice a) (twice b) ≡ told (is_same a b)
equal_told a b = grind (arith, ints)

negated_told : (a : Bool) → negated (told a) ≡ told (not a)
negated_told true = refl
negated_told false = refl

both_told : (a b : Bool) → both_of (told a) (told b) ≡ told (a && b)
both_told true b = refl
both_told false b = refl

either_told : (a b : Bool) → either_of (told a) (told b) ≡ told (a || b)
either_told true b = refl
either_told false b = refl

-- ---- whole rules

abbrev SameTold : Verdict → Bool → Type 0
SameTold verdict truth = verdict ≡ told truth

abbrev SameTwice : Span → ℤ → Type 0
SameTwice ends value = ends ≡ twice value

abbrev A : Type 0
A = Two Verdict Bool SameTold

abbrev B : Type 0
B = Two Span ℤ SameTwice

module _ (point : List ℤ) where
  rule_told : (x : Rule-F A B) → SameTold (rule_verdict (rule_ones Verdict Bool Span ℤ SameTold SameTwice x)) (rule_truth (rule_others Verdict Bool Span ℤ SameTold SameTwice x))
  rule_told Always = refl
  rule_told (Below a b) = ap₂ below_of a.related b.related ∙ below_told a.other b.other
  rule_told (AtMost a b) = ap₂ at_most_of a.related b.related ∙ at_most_told a.other b.other
  rule_told (Equal a b) = ap₂ equal_of a.related b.related ∙ equal_told a.other b.other
  rule_told (Differ a b) = ap negated (ap₂ equal_of a.related b.related ∙ equal_told a.other b.other) ∙ negated_told (is_same a.other b.other)
  rule_told (Both a b) = ap₂ both_of a.related b.related ∙ both_told a.other b.other
  rule_told (Either a b) = ap₂ either_of a.related b.related ∙ either_told a.other b.other
  rule_told (Not a) = ap negated a.related ∙ negated_told a.other

  term_told : (x : Term-F A B) → SameTwice (term_span (box_of point) (term_ones Verdict Bool Span ℤ SameTold SameTwice x)) (term_value point (term_others Verdict Bool Span ℤ SameTold SameTwice x))
  term_told (Whole n) = refl
  term_told (Slot s) = ap₂ span (low_box_of point s) (high_box_of point s)
  term_told (Sum a b) = ap₂ sum_of a.related b.related
  term_told (Less a b) = ap₂ less_of a.related b.related
  term_told (Times a b) = ap₂ times_of a.related b.related ∙ times_twice a.other b.other
  term_told (Truth r) = ap truth_of r.related ∙ truth_twice r.other

  pub point_told : (rule : Rule) → verdict_of (box_of point) rule ≡ told (true_at point rule)
  point_told = rule_law Verdict Bool Span ℤ SameTold SameTwice rule_verdict (term_span (box_of point)) rule_truth (term_value point) rule_told term_told

  pub point_twice : (term : Term) → span_of (box_of point) term ≡ twice (value_at point term)
  point_twice = term_law Verdict Bool Span ℤ SameTold SameTwice rule_verdict (term_span (box_of point)) rule_truth (term_value point) rule_told term_told

-- ---- what a verdict says of the points

pub box_of-box : (point : List ℤ) → IsBox (box_of point)
box_of-box point = record { ordered = λ slot. omega (arith, ints, low_box_of point slot, high_box_of point slot) }

pub length_box_of : (point : List ℤ) → length (box_of point) ≡ length point
length_box_of [] = refl
length_box_of (v ∷ vs) = ap suc (length_box_of vs)

pub point_inside : (ends : List Pair) (point : List ℤ) → IsPointOf ends point → IsInside (box_of point) ends
point_inside ends point p = record {
  as_long = length_box_of point ∙ p.as_long;
  above = λ slot. omega (arith, ints, low_box_of point slot, p.above slot);
  below = λ slot. omega (arith, ints, high_box_of point slot, p.below slot);
}

told_true : (b : Bool) → told b ≡ True → b ≡ true
told_true true e = refl
told_true false e = cc

told_false : (b : Bool) → told b ≡ False → b ≡ false
told_false true e = cc
told_false false e = refl

-- if a box says True of a rule, it is true at every point of the box
pub true_everywhere : (ends : List Pair) (rule : Rule) → verdict_of ends rule ≡ True → (point : List ℤ) → IsPointOf ends point → true_at point rule ≡ true
true_everywhere ends rule says point p =
    told_true (true_at point rule) (sym (point_told point rule) ∙ (smaller_keeps (box_of point) ends (box_of-box point) (point_inside ends point p) rule).yes says)

-- if it says False, the rule is false at every point
pub false_everywhere : (ends : List Pair) (rule : Rule) → verdict_of ends rule ≡ False → (point : List ℤ) → IsPointOf ends point → true_at point rule ≡ false
false_everywhere ends rule says point p =
    told_false (true_at point rule) (sym (point_told point rule) ∙ (smaller_keeps (box_of point) ends (box_of-box point) (point_inside ends point p) rule).no says)

-- what a box says other than Open, a smaller one says too
pub same_within : (ends : List Pair) (rule : Rule) (verdict : Verdict) → verdict_of ends rule ≡ verdict → verdict ≢ Open → (smaller : List Pair) → IsBox smaller → IsInside smaller ends → verdict_of smaller rule ≡ verdict
same_within ends rule True says n smaller box inside = (smaller_keeps smaller ends box inside rule).yes says
same_within ends rule False says n smaller box inside = (smaller_keeps smaller ends box inside rule).no says
same_within ends rule Open says n smaller box inside = absurd (n refl)

-- ---- boxes of one point

-- the low ends, as a point
abbrev pub lows : List Pair → List ℤ
lows ends = map (λ p. p.low) ends

pub value_lows : (ends : List Pair) (slot : ℕ) → value_of (lows ends) slot ≡ low_at ends slot
value_lows [] slot = refl
value_lows (p ∷ ps) zero = refl
value_lows (p ∷ ps) (suc slot) = value_lows ps slot

pub length_lows : (ends : List Pair) → length (lows ends) ≡ length ends
length_lows [] = refl
length_lows (p ∷ ps) = ap suc (length_lows ps)

one_inside : (ends : List Pair) → IsOnePoint ends → IsInside ends (box_of (lows ends))
one_inside ends one = record {
  as_long = sym (length_box_of (lows ends) ∙ length_lows ends);
  above = λ slot. omega (arith, ints, low_box_of (lows ends) slot, value_lows ends slot);
  below = λ slot. omega (arith, ints, high_box_of (lows ends) slot, value_lows ends slot, one.same slot);
}

one_box : (ends : List Pair) → IsOnePoint ends → IsBox ends
one_box ends one = record { ordered = λ slot. omega (arith, ints, one.same slot) }

settles : (v : Verdict) (b : Bool) → Keeps v (told b) → v ≢ Open
settles v true k e = let h = k.yes refl in cc
settles v false k e = let h = k.no refl in cc

-- a box of one point never says Open
pub one_point_settles : (ends : List Pair) (rule : Rule) → IsOnePoint ends → verdict_of ends rule ≢ Open
one_point_settles ends rule one = settles (verdict_of ends rule) (true_at (lows ends) rule)
    (subst (Keeps (verdict_of ends rule)) (point_told (lows ends) rule) (smaller_keeps ends (box_of (lows ends)) (one_box ends one) (one_inside ends one) rule))

-- a box of one point is that of its low ends
pub one_point_box : (ends : List Pair) → IsOnePoint ends → ends ≡ box_of (lows ends)
one_point_box [] one = refl
one_point_box (p ∷ ps) one = ap₂ (λ (q : Pair) (qs : List Pair). q ∷ qs) (ap (pair p.low) (sym (one.same zero))) (one_point_box ps (record { same = λ slot. one.same (suc slot) }))
