-- How far the numbers within a rule's tree reach, and that the rule itself reaches no further.
use Rattle.std.proofs.Common.{◌≡◌, ℕ, ◌+◌, ◌*◌, ◌≤◌, max, refl, ap₂, List, arith}
use Rattle.std.specs.Prelude.{ℤ, pos, neg_ℤ, ◌+ℤ◌, ◌-ℤ◌, ◌*ℤ◌, ◌≤ℤ◌, unsigned_abs}
use Rattle.std.proofs.lemmas.Int.{ints, clamps, unsigned_abs-mul}
use Rattle.std.proofs.Math.Nat.{mul-le-mul_left, mul-le-mul_right}
use Rattle.box_eval.specs.declared.rule.Rule.{Rule}
use Rattle.box_eval.specs.declared.rule.Rule.TheOpen as O
use Rattle.box_eval.specs.declared.rule.Rule.TheOpen.{Rule-F, Term-F}
use Rattle.box_eval.specs.declared.bounds.Pair.{Pair}
use Rattle.box_eval.specs.declared.verdict.Verdict.{Verdict}
use Rattle.box_eval.specs.declared.verdict.Verdict.TheVariants.{True, False, Open}
use Rattle.box_eval.specs.Box.{pair, low_at, high_at, IsBox}
use Rattle.box_eval.specs.Verdict.{truth_of, least_of, greatest_of}
use Rattle.box_eval.specs.Reach.{Seen, Judged, greatest_in_rule, slots_in_term, term_seen, rule_judged, reach_of, slot_bound}
use Rattle.box_eval.specs.FlatRules.{FlatTerm, FlatRule, Whole, Slot, Sum, Less, Times, Truth, Always, Below, AtMost, Equal, Differ, Both, Either, Not, rule_step, term_step, flat_rule}
use Rattle.box_eval.proofs.Folds.{Two, rule_ones, rule_others, term_ones, term_others, rule_law}

-- ---- slots

abbrev mutual
  pub term_slots : FlatTerm → ℕ
  term_slots (Whole number) = 0
  term_slots (Slot slot) = slot + 1
  term_slots (Sum left right) = max (term_slots left) (term_slots right)
  term_slots (Less left right) = max (term_slots left) (term_slots right)
  term_slots (Times left right) = max (term_slots left) (term_slots right)
  term_slots (Truth rule) = rule_slots rule

  pub rule_slots : FlatRule → ℕ
  rule_slots Always = 0
  rule_slots (Below left right) = max (term_slots left) (term_slots right)
  rule_slots (AtMost left right) = max (term_slots left) (term_slots right)
  rule_slots (Equal left right) = max (term_slots left) (term_slots right)
  rule_slots (Differ left right) = max (term_slots left) (term_slots right)
  rule_slots (Both left right) = max (rule_slots left) (rule_slots right)
  rule_slots (Either left right) = max (rule_slots left) (rule_slots right)
  rule_slots (Not part) = rule_slots part

-- ---- ends

-- the greater magnitude of two ends
abbrev pub size : Pair → ℕ
size ends = max (unsigned_abs ends.low) (unsigned_abs ends.high)

-- ends between which a term's value lies
abbrev pub interval : List Pair → FlatTerm → Pair
interval ends (Whole number) = pair number number
interval ends (Slot slot) = pair (low_at ends slot) (high_at ends slot)
interval ends (Sum left right) = pair ((interval ends left).low +ℤ (interval ends right).low) ((interval ends left).high +ℤ (interval ends right).high)
interval ends (Less left right) = pair ((interval ends left).low -ℤ (interval ends right).high) ((interval ends left).high -ℤ (interval ends right).low)
interval ends (Times left right) = pair (neg_ℤ (pos (size (interval ends left) * size (interval ends right)))) (pos (size (interval ends left) * size (interval ends right)))
interval ends (Truth rule) = pair (pos 0) (pos 1)

abbrev mutual
  -- the greatest size of a term and of the terms within it
  pub term_far : List Pair → FlatTerm → ℕ
  term_far ends (Whole number) = size (pair number number)
  term_far ends (Slot slot) = size (pair (low_at ends slot) (high_at ends slot))
  term_far ends (Sum left right) = max (size (interval ends (Sum left right))) (max (term_far ends left) (term_far ends right))
  term_far ends (Less left right) = max (size (interval ends (Less left right))) (max (term_far ends left) (term_far ends right))
  term_far ends (Times left right) = max (size (interval ends (Times left right))) (max (term_far ends left) (term_far ends right))
  term_far ends (Truth rule) = max 1 (rule_far ends rule)

  -- the greatest size of the terms within a rule
  pub rule_far : List Pair → FlatRule → ℕ
  rule_far ends Always = 0
  rule_far ends (Below left right) = max (term_far ends left) (term_far ends right)
  rule_far ends (AtMost left right) = max (term_far ends left) (term_far ends right)
  rule_far ends (Equal left right) = max (term_far ends left) (term_far ends right)
  rule_far ends (Differ left right) = max (term_far ends left) (term_far ends right)
  rule_far ends (Both left right) = max (rule_far ends left) (rule_far ends right)
  rule_far ends (Either left right) = max (rule_far ends left) (rule_far ends right)
  rule_far ends (Not part) = rule_far ends part

-- ---- slots of a rule

abbrev SameSlots : FlatRule → ℕ → Type 0
SameSlots rule n = n ≡ rule_slots rule

abbrev SameTermSlots : FlatTerm → ℕ → Type 0
SameTermSlots term n = n ≡ term_slots term

abbrev P : Type 0
P = Two FlatRule ℕ SameSlots

abbrev Q : Type 0
Q = Two FlatTerm ℕ SameTermSlots

slots_rule : (x : Rule-F P Q) → SameSlots (rule_step (rule_ones FlatRule ℕ FlatTerm ℕ SameSlots SameTermSlots x)) (greatest_in_rule (rule_others FlatRule ℕ FlatTerm ℕ SameSlots SameTermSlots x))
slots_rule O.Always = refl
slots_rule (O.Below a b) = ap₂ max a.related b.related
slots_rule (O.AtMost a b) = ap₂ max a.related b.related
slots_rule (O.Equal a b) = ap₂ max a.related b.related
slots_rule (O.Differ a b) = ap₂ max a.related b.related
slots_rule (O.Both a b) = ap₂ max a.related b.related
slots_rule (O.Either a b) = ap₂ max a.related b.related
slots_rule (O.Not a) = a.related

slots_term : (x : Term-F P Q) → SameTermSlots (term_step (term_ones FlatRule ℕ FlatTerm ℕ SameSlots SameTermSlots x)) (slots_in_term (term_others FlatRule ℕ FlatTerm ℕ SameSlots SameTermSlots x))
slots_term (O.Whole n) = refl
slots_term (O.Slot s) = refl
slots_term (O.Sum a b) = ap₂ max a.related b.related
slots_term (O.Less a b) = ap₂ max a.related b.related
slots_term (O.Times a b) = ap₂ max a.related b.related
slots_term (O.Truth r) = r.related

pub slots_are : (rule : Rule) → slot_bound rule ≡ rule_slots (flat_rule rule)
slots_are = rule_law FlatRule ℕ FlatTerm ℕ SameSlots SameTermSlots rule_step term_step greatest_in_rule slots_in_term slots_rule slots_term

-- ---- the reach of a rule

product_within : (a b : ℤ) (m n : ℕ) → unsigned_abs a ≤ m → unsigned_abs b ≤ n → unsigned_abs (a *ℤ b) ≤ m * n
product_within a b m n h k = rw (unsigned_abs-mul a b) (omega (arith, mul-le-mul_right (unsigned_abs b) h, mul-le-mul_left m k))

module _ (ends : List Pair) (box : IsBox ends) where
  record RuleNear (rule : FlatRule) (judged : Judged) : Type 0 where
    reach : judged.reach ≤ rule_far ends rule

  record TermNear (term : FlatTerm) (seen : Seen) : Type 0 where
    ordered : seen.span.least ≤ℤ seen.span.greatest
    low : (interval ends term).low ≤ℤ seen.span.least
    high : seen.span.greatest ≤ℤ (interval ends term).high
    reach : seen.reach ≤ term_far ends term

  abbrev A : Type 0
  A = Two FlatRule Judged RuleNear

  abbrev B : Type 0
  B = Two FlatTerm Seen TermNear

  rule_near : (x : Rule-F A B) → RuleNear (rule_step (rule_ones FlatRule Judged FlatTerm Seen RuleNear TermNear x)) (rule_judged (rule_others FlatRule Judged FlatTerm Seen RuleNear TermNear x))
  rule_near O.Always = record { reach = omega arith }
  rule_near (O.Below a b) = record { reach = omega (arith, a.related.reach, b.related.reach) }
  rule_near (O.AtMost a b) = record { reach = omega (arith, a.related.reach, b.related.reach) }
  rule_near (O.Equal a b) = record { reach = omega (arith, a.related.reach, b.related.reach) }
  rule_near (O.Differ a b) = record { reach = omega (arith, a.related.reach, b.related.reach) }
  rule_near (O.Both a b) = record { reach = omega (arith, a.related.reach, b.related.reach) }
  rule_near (O.Either a b) = record { reach = omega (arith, a.related.reach, b.related.reach) }
  rule_near (O.Not a) = record { reach = a.related.reach }

  near : (low high least greatest : ℤ) (m n : ℕ) → low ≤ℤ least → least ≤ℤ greatest → greatest ≤ℤ high → m ≤ n
      → max (max (unsigned_abs least) (unsigned_abs greatest)) m ≤ max (max (unsigned_abs low) (unsigned_abs high)) n
  near low high least greatest m n p q r s = omega (arith, ints)

  inside_size : (low high z : ℤ) → low ≤ℤ z → z ≤ℤ high → unsigned_abs z ≤ max (unsigned_abs low) (unsigned_abs high)
  inside_size low high z p q = omega (arith, ints)

  four_low : (a b c d : ℤ) (m : ℕ) → unsigned_abs a ≤ m → unsigned_abs b ≤ m → unsigned_abs c ≤ m → unsigned_abs d ≤ m → neg_ℤ (pos m) ≤ℤ least_of a b c d
  four_low a b c d m h i j k = omega (arith, ints, clamps)

  four_high : (a b c d : ℤ) (m : ℕ) → unsigned_abs a ≤ m → unsigned_abs b ≤ m → unsigned_abs c ≤ m → unsigned_abs d ≤ m → greatest_of a b c d ≤ℤ pos m
  four_high a b c d m h i j k = omega (arith, ints, clamps)

  four_ordered : (a b c d : ℤ) → least_of a b c d ≤ℤ greatest_of a b c d
  four_ordered a b c d = omega (arith, ints, clamps)

  truth_ordered : (v : Verdict) → (pos 0 ≤ℤ (truth_of v).least) × ((truth_of v).least ≤ℤ (truth_of v).greatest) × ((truth_of v).greatest ≤ℤ pos 1)
  truth_ordered True = (omega (arith, ints), omega (arith, ints), omega (arith, ints))
  truth_ordered False = (omega (arith, ints), omega (arith, ints), omega (arith, ints))
  truth_ordered Open = (omega (arith, ints), omega (arith, ints), omega (arith, ints))

  term_near : (x : Term-F A B) → TermNear (term_step (term_ones FlatRule Judged FlatTerm Seen RuleNear TermNear x)) (term_seen ends (term_others FlatRule Judged FlatTerm Seen RuleNear TermNear x))
  term_near (O.Whole n) = record { ordered = omega (arith, ints); low = omega (arith, ints); high = omega (arith, ints); reach = omega arith }
  term_near (O.Slot s) = record { ordered = box.ordered s; low = omega (arith, ints); high = omega (arith, ints); reach = omega arith }
  term_near (O.Sum a b) =
      let p : ((interval ends a.one).low +ℤ (interval ends b.one).low) ≤ℤ (a.other.span.least +ℤ b.other.span.least) = omega (arith, ints, a.related.low, b.related.low) in
      let q : (a.other.span.least +ℤ b.other.span.least) ≤ℤ (a.other.span.greatest +ℤ b.other.span.greatest) = omega (arith, ints, a.related.ordered, b.related.ordered) in
      let r : (a.other.span.greatest +ℤ b.other.span.greatest) ≤ℤ ((interval ends a.one).high +ℤ (interval ends b.one).high) = omega (arith, ints, a.related.high, b.related.high) in
      record { ordered = q; low = p; high = r; reach = near _ _ _ _ _ _ p q r (omega (arith, a.related.reach, b.related.reach)) }
  term_near (O.Less a b) =
      let p : ((interval ends a.one).low -ℤ (interval ends b.one).high) ≤ℤ (a.other.span.least -ℤ b.other.span.greatest) = omega (arith, ints, a.related.low, b.related.high) in
      let q : (a.other.span.least -ℤ b.other.span.greatest) ≤ℤ (a.other.span.greatest -ℤ b.other.span.least) = omega (arith, ints, a.related.ordered, b.related.ordered) in
      let r : (a.other.span.greatest -ℤ b.other.span.least) ≤ℤ ((interval ends a.one).high -ℤ (interval ends b.one).low) = omega (arith, ints, a.related.high, b.related.low) in
      record { ordered = q; low = p; high = r; reach = near _ _ _ _ _ _ p q r (omega (arith, a.related.reach, b.related.reach)) }
  term_near (O.Times a b) =
      let m = size (interval ends a.one) in
      let n = size (interval ends b.one) in
      let a_least = inside_size (interval ends a.one).low (interval ends a.one).high a.other.span.least a.related.low (le_more a.other.span.least a.other.span.greatest (interval ends a.one).high a.related.ordered a.related.high) in
      let a_greatest = inside_size (interval ends a.one).low (interval ends a.one).high a.other.span.greatest (le_more (interval ends a.one).low a.other.span.least a.other.span.greatest a.related.low a.related.ordered) a.related.high in
      let b_least = inside_size (interval ends b.one).low (interval ends b.one).high b.other.span.least b.related.low (le_more b.other.span.least b.other.span.greatest (interval ends b.one).high b.related.ordered b.related.high) in
      let b_greatest = inside_size (interval ends b.one).low (interval ends b.one).high b.other.span.greatest (le_more (interval ends b.one).low b.other.span.least b.other.span.greatest b.related.low b.related.ordered) b.related.high in
      let one = product_within a.other.span.least b.other.span.least m n a_least b_least in
      let two = product_within a.other.span.least b.other.span.greatest m n a_least b_greatest in
      let three = product_within a.other.span.greatest b.other.span.least m n a_greatest b_least in
      let four = product_within a.other.span.greatest b.other.span.greatest m n a_greatest b_greatest in
      let p = four_low (a.other.span.least *ℤ b.other.span.least) (a.other.span.least *ℤ b.other.span.greatest) (a.other.span.greatest *ℤ b.other.span.least) (a.other.span.greatest *ℤ b.other.span.greatest) (m * n) one two three four in
      let q = four_ordered (a.other.span.least *ℤ b.other.span.least) (a.other.span.least *ℤ b.other.span.greatest) (a.other.span.greatest *ℤ b.other.span.least) (a.other.span.greatest *ℤ b.other.span.greatest) in
      let r = four_high (a.other.span.least *ℤ b.other.span.least) (a.other.span.least *ℤ b.other.span.greatest) (a.other.span.greatest *ℤ b.other.span.least) (a.other.span.greatest *ℤ b.other.span.greatest) (m * n) one two three four in
      record { ordered = q; low = p; high = r; reach = near _ _ _ _ _ _ p q r (omega (arith, a.related.reach, b.related.reach)) }
    where
      le_more : (x y z : ℤ) → x ≤ℤ y → y ≤ℤ z → x ≤ℤ z
      le_more x y z p q = omega (arith, ints)
  term_near (O.Truth r) =
      let t = truth_ordered r.other.verdict in
      record { ordered = t.1; low = t.0; high = t.2; reach = near (pos 0) (pos 1) (truth_of r.other.verdict).least (truth_of r.other.verdict).greatest _ _ t.0 t.1 t.2 r.related.reach }

  pub far_enough : (rule : Rule) → reach_of ends rule ≤ rule_far ends (flat_rule rule)
  far_enough rule = (rule_law FlatRule Judged FlatTerm Seen RuleNear TermNear rule_step term_step rule_judged (term_seen ends) rule_near term_near rule).reach
