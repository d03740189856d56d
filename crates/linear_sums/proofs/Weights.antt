-- Weights are at least 1, and limit the constants and factors of forms.
use Rattle.std.proofs.Common.{◌≡◌, refl, sym, ap, ap₂, ◌∙◌, if◌then◌else◌, ℕ, ◌+◌, ◌*◌, ◌≤◌, Bool, true, false, List, [], Option, ℤ, ◌*ℤ◌, arith}
use Rattle.std.specs.Prelude.{unsigned_abs}
use Rattle.std.proofs.lemmas.Int.{ints}
use Rattle.std.proofs.Math.Nat.{mul-le-mul_left, mul-le-mul_right, le-mul_of_pos_right}
use Rattle.box_eval.specs.declared.rule.Rule.{Rule}
use Rattle.box_eval.specs.declared.rule.Term.{Term}
use Rattle.box_eval.specs.declared.rule.Rule.TheOpen.{Rule-F, Term-F, Always, Below, AtMost, Equal, Differ, Both, Either, Not, Whole, Slot, Sum, Less, Times, Truth}
use Rattle.box_eval.specs.declared.rule.Rule.TheOpen as O
use Rattle.box_eval.specs.declared.rule.Rule.TheViews as V
use Rattle.box_eval.specs.declared.rule.Rule.TheViews.{roll-Term}
use Rattle.box_eval.specs.declared.rule.Rule.TheFolds.{fold-roll-Term}
use denote.Hole.Carrier.{roll}
use Rattle.box_eval.specs.declared.bounds.Pair.{Pair}
use Rattle.box_eval.proofs.Folds.{Two, rule_ones, rule_others, term_ones, term_others, rule_law, term_law}
use Rattle.linear_sums.specs.Linear.{TermForm, RuleForm, factor_of, no_form, term_form, rule_form, form_of_term, form_of_rule, weight_of_parts, weight_of_terms, term_weight, rule_weight}
use Rattle.linear_sums.specs.Sums.{kept}
use Rattle.linear_sums.proofs.Products.{product_within}

pub part_left : (m n : ℕ) → 1 ≤ n → m ≤ m * n
part_left m n h = le-mul_of_pos_right m h

pub part_right : (m n : ℕ) → 1 ≤ m → n ≤ m * n
part_right m n h = omega (arith, mul-le-mul_right n h)

-- ---- a weight over no ends is the least that a term can have

record IsLess (none some : ℕ) : Type 0 where
  one : 1 ≤ none
  more : none ≤ some

abbrev W : Type 0
W = Two ℕ ℕ IsLess

less_sum : (a b c d : ℕ) → IsLess a b → IsLess c d → IsLess (a + c) (b + d)
less_sum a b c d h k = record { one = omega (arith, h.one); more = omega (arith, h.more, k.more) }

less_product : (a b c d : ℕ) → IsLess a b → IsLess c d → IsLess (a * c) (b * d)
less_product a b c d h k = record {
  one = omega (arith, h.one, k.one, part_left a c k.one);
  more = omega (arith, mul-le-mul_right c h.more, mul-le-mul_left b k.more);
}

less_one : IsLess 1 1
less_one = record { one = omega arith; more = omega arith }

module _ (ends : List Pair) where
  rule_less : (x : Rule-F W W) → IsLess (weight_of_terms (rule_ones ℕ ℕ ℕ ℕ IsLess IsLess x)) (weight_of_terms (rule_others ℕ ℕ ℕ ℕ IsLess IsLess x))
  rule_less Always = less_one
  rule_less (Below a b) = less_sum a.one a.other b.one b.other a.related b.related
  rule_less (AtMost a b) = less_sum a.one a.other b.one b.other a.related b.related
  rule_less (Equal a b) = less_one
  rule_less (Differ a b) = less_one
  rule_less (Both a b) = less_one
  rule_less (Either a b) = less_one
  rule_less (Not a) = less_one

  term_less : (x : Term-F W W) → IsLess (weight_of_parts [] (term_ones ℕ ℕ ℕ ℕ IsLess IsLess x)) (weight_of_parts ends (term_others ℕ ℕ ℕ ℕ IsLess IsLess x))
  term_less (Whole n) = record { one = omega arith; more = omega arith }
  term_less (Slot s) = record { one = omega (arith, ints); more = omega (arith, ints) }
  term_less (Sum a b) = less_sum a.one a.other b.one b.other a.related b.related
  term_less (Less a b) = less_sum a.one a.other b.one b.other a.related b.related
  term_less (Times a b) = less_product a.one a.other b.one b.other a.related b.related
  term_less (Truth r) = less_one

  law : (term : Term) → IsLess (term_weight [] term) (term_weight ends term)
  law term = term_law ℕ ℕ ℕ ℕ IsLess IsLess weight_of_terms (weight_of_parts []) weight_of_terms (weight_of_parts ends) rule_less term_less term

  pub least_weight : (term : Term) → term_weight [] term ≤ term_weight ends term
  least_weight term = (law term).more

  pub least_rule_weight : (rule : Rule) → rule_weight [] rule ≤ rule_weight ends rule
  least_rule_weight rule = (rule_law ℕ ℕ ℕ ℕ IsLess IsLess weight_of_terms (weight_of_parts []) weight_of_terms (weight_of_parts ends) rule_less term_less rule).more

  pub some_weight : (term : Term) → 1 ≤ term_weight ends term
  some_weight term = let l = law term in omega (arith, l.one, l.more)

  weight_times : (a b : Term) → term_weight ends (V.Times a b) ≡ term_weight ends a * term_weight ends b
  unfolding roll-Term roll
  weight_times a b = fold-roll-Term ℕ ℕ weight_of_terms (weight_of_parts ends) (O.Times a b)

  -- what is kept of a product's weight
  pub kept_product : (term a b x y : Term) (r : Option ℕ) → term ≡ V.Times a b → x ≡ a → y ≡ b
      → ((m n : ℕ) → 1 ≤ m → 1 ≤ n → kept (term_weight ends x) ≡ kept m → kept (term_weight ends y) ≡ kept n → r ≡ kept (m * n)) → r ≡ kept (term_weight ends term)
  kept_product term a b x y r is e f told =
      told (term_weight ends x) (term_weight ends y) (some_weight x) (some_weight y) refl refl
      ∙ ap kept (ap₂ (λ (m n : ℕ). m * n) (ap (term_weight ends) e) (ap (term_weight ends) f) ∙ sym (ap (term_weight ends) is ∙ weight_times a b))

-- ---- what a weight limits

record TermWithin (form : TermForm) (weight : ℕ) : Type 0 where
  one : 1 ≤ weight
  constant : unsigned_abs form.constant ≤ weight
  factor : (slot : ℕ) → unsigned_abs (form.factor slot) ≤ weight

record RuleWithin (form : RuleForm) (weight : ℕ) : Type 0 where
  limit : unsigned_abs form.constant + unsigned_abs form.gap ≤ 2 * weight
  factor : (slot : ℕ) → unsigned_abs (form.factor slot) ≤ weight

abbrev A : Type 0
A = Two RuleForm ℕ RuleWithin

abbrev B : Type 0
B = Two TermForm ℕ TermWithin

factor_one : (slot other : ℕ) → unsigned_abs (factor_of slot other) ≤ 1
factor_one slot other = grind arith

times_within : (x : Bool) (c d p q : ℤ) (m n : ℕ) → unsigned_abs c ≤ m → unsigned_abs d ≤ n → unsigned_abs p ≤ m → unsigned_abs q ≤ n
    → unsigned_abs (if x then c *ℤ q else d *ℤ p) ≤ m * n
times_within true c d p q m n h i j k = product_within c q m n h k
times_within false c d p q m n h i j k = omega (arith, product_within d p n m i j)

no_within : RuleWithin no_form 1
no_within = record { limit = omega (arith, ints); factor = λ slot. omega (arith, ints) }

module _ (ends : List Pair) where
  rule_within : (x : Rule-F A B) → RuleWithin (rule_form (rule_ones RuleForm ℕ TermForm ℕ RuleWithin TermWithin x)) (weight_of_terms (rule_others RuleForm ℕ TermForm ℕ RuleWithin TermWithin x))
  rule_within Always = no_within
  rule_within (Below a b) = record { limit = omega (arith, ints, a.related.constant, b.related.constant, a.related.one); factor = λ slot. omega (arith, ints, a.related.factor slot, b.related.factor slot) }
  rule_within (AtMost a b) = record { limit = omega (arith, ints, a.related.constant, b.related.constant, a.related.one); factor = λ slot. omega (arith, ints, a.related.factor slot, b.related.factor slot) }
  rule_within (Equal a b) = no_within
  rule_within (Differ a b) = no_within
  rule_within (Both a b) = no_within
  rule_within (Either a b) = no_within
  rule_within (Not a) = no_within

  term_within : (x : Term-F A B) → TermWithin (term_form (term_ones RuleForm ℕ TermForm ℕ RuleWithin TermWithin x)) (weight_of_parts ends (term_others RuleForm ℕ TermForm ℕ RuleWithin TermWithin x))
  term_within (Whole n) = record { one = omega arith; constant = omega arith; factor = λ slot. omega (arith, ints) }
  term_within (Slot s) = record { one = omega arith; constant = omega (arith, ints); factor = λ slot. omega (arith, factor_one s slot) }
  term_within (Sum a b) = record {
    one = omega (arith, a.related.one);
    constant = omega (arith, ints, a.related.constant, b.related.constant);
    factor = λ slot. omega (arith, ints, a.related.factor slot, b.related.factor slot);
  }
  term_within (Less a b) = record {
    one = omega (arith, a.related.one);
    constant = omega (arith, ints, a.related.constant, b.related.constant);
    factor = λ slot. omega (arith, ints, a.related.factor slot, b.related.factor slot);
  }
  term_within (Times a b) = record {
    one = omega (arith, a.related.one, part_left a.other b.other b.related.one);
    constant = product_within a.one.constant b.one.constant a.other b.other a.related.constant b.related.constant;
    factor = λ slot. times_within a.one.fixed a.one.constant b.one.constant (a.one.factor slot) (b.one.factor slot) a.other b.other
        a.related.constant b.related.constant (a.related.factor slot) (b.related.factor slot);
  }
  term_within (Truth r) = record { one = omega arith; constant = omega (arith, ints); factor = λ slot. omega (arith, ints) }

  within : (term : Term) → TermWithin (form_of_term term) (term_weight ends term)
  within term = term_law RuleForm ℕ TermForm ℕ RuleWithin TermWithin rule_form term_form weight_of_terms (weight_of_parts ends) rule_within term_within term

  pub constant_within : (term : Term) → unsigned_abs (form_of_term term).constant ≤ term_weight ends term
  constant_within term = (within term).constant

  pub factor_within : (term : Term) (slot : ℕ) → unsigned_abs ((form_of_term term).factor slot) ≤ term_weight ends term
  factor_within term slot = (within term).factor slot

  pub rule_factor_within : (rule : Rule) (slot : ℕ) → unsigned_abs ((form_of_rule rule).factor slot) ≤ rule_weight ends rule
  rule_factor_within rule slot = (rule_law RuleForm ℕ TermForm ℕ RuleWithin TermWithin rule_form term_form weight_of_terms (weight_of_parts ends) rule_within term_within rule).factor slot

  pub rule_constant_within : (rule : Rule) → unsigned_abs (form_of_rule rule).constant + unsigned_abs (form_of_rule rule).gap ≤ 2 * rule_weight ends rule
  rule_constant_within rule = (rule_law RuleForm ℕ TermForm ℕ RuleWithin TermWithin rule_form term_form weight_of_terms (weight_of_parts ends) rule_within term_within rule).limit
