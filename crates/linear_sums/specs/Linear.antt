-- The linear form of terms and rules, their weights, and sums of rules.
use Rattle.std.specs.Prelude.{ℕ, ◌+◌, ◌*◌, ◌^◌, suc, max, Bool, true, false, ◌&&◌, ◌||◌, if◌then◌else◌, nat_eq, nat_le, List, [], ◌∷◌, slice_get, unsigned_abs, ℤ, pos, ◌+ℤ◌, ◌-ℤ◌, ◌*ℤ◌, int_lt}
use Rattle.std.specs.Int.{int_min}
use Rattle.std.specs.Option.{option_map_or}
use Rattle.box_eval.specs.declared.rule.Rule.{Rule}
use Rattle.box_eval.specs.declared.rule.Term.{Term}
use Rattle.box_eval.specs.declared.rule.Rule.TheOpen.{Rule-F, Term-F, Always, Below, AtMost, Equal, Differ, Both, Either, Not, Whole, Slot, Sum, Less, Times, Truth}
use Rattle.box_eval.specs.declared.rule.Rule.TheFolds.{fold-Rule, fold-Term}
use Rattle.box_eval.specs.declared.bounds.Pair.{Pair}
use Rattle.box_eval.specs.declared.flat.Flat.{Flat}
use Rattle.box_eval.specs.Box.{low_at, high_at}
use Rattle.linear_sums.specs.declared.pick.Pick.{Pick}

-- ---- forms

-- a term as a constant and a factor for each slot, if it is linear; a fixed one is built of numbers, sums, differences and products alone
pub record TermForm : Type 0 where
  pub linear : Bool
  pub fixed : Bool
  pub constant : ℤ
  pub factor : ℕ → ℤ

-- a comparison as a statement that constant, factors times slots, and gap make at most 0, if it is linear
pub record RuleForm : Type 0 where
  pub linear : Bool
  pub constant : ℤ
  pub factor : ℕ → ℤ
  pub gap : ℤ

-- a number's factors
abbrev pub no_factor : ℕ → ℤ
no_factor slot = pos 0

-- a slot's factors: 1 for itself
abbrev pub factor_of : ℕ → ℕ → ℤ
factor_of slot other = if nat_eq slot other then pos 1 else pos 0

abbrev pub whole_form : ℤ → TermForm
whole_form n = record { linear = true; fixed = true; constant = n; factor = no_factor }

abbrev pub slot_form : ℕ → TermForm
slot_form slot = record { linear = true; fixed = false; constant = pos 0; factor = factor_of slot }

abbrev pub form_plus : TermForm → TermForm → TermForm
form_plus a b = record {
  linear = a.linear && b.linear;
  fixed = a.fixed && b.fixed;
  constant = a.constant +ℤ b.constant;
  factor = λ slot. a.factor slot +ℤ b.factor slot;
}

abbrev pub form_less : TermForm → TermForm → TermForm
form_less a b = record {
  linear = a.linear && b.linear;
  fixed = a.fixed && b.fixed;
  constant = a.constant -ℤ b.constant;
  factor = λ slot. a.factor slot -ℤ b.factor slot;
}

-- the factors of a product one of whose terms is fixed: those of the other, times its value
abbrev pub factor_times : TermForm → TermForm → ℕ → ℤ
factor_times a b slot = if a.fixed then a.constant *ℤ b.factor slot else b.constant *ℤ a.factor slot

abbrev pub form_times : TermForm → TermForm → TermForm
form_times a b = record {
  linear = a.linear && b.linear && (a.fixed || b.fixed);
  fixed = a.fixed && b.fixed;
  constant = a.constant *ℤ b.constant;
  factor = factor_times a b;
}

abbrev pub no_term_form : TermForm
no_term_form = record { linear = false; fixed = false; constant = pos 0; factor = no_factor }

abbrev pub no_form : RuleForm
no_form = record { linear = false; constant = pos 0; factor = no_factor; gap = pos 0 }

-- the first term minus the second, and by how much the second is greater at least
abbrev pub form_between : TermForm → TermForm → ℤ → RuleForm
form_between a b gap = record {
  linear = a.linear && b.linear;
  constant = a.constant -ℤ b.constant;
  factor = λ slot. a.factor slot -ℤ b.factor slot;
  gap = gap;
}

-- a term's form, from those of its parts
abbrev pub term_form : Term-F RuleForm TermForm → TermForm
term_form (Whole n) = whole_form n
term_form (Slot slot) = slot_form slot
term_form (Sum a b) = form_plus a b
term_form (Less a b) = form_less a b
term_form (Times a b) = form_times a b
term_form (Truth rule) = no_term_form

-- a rule's form, from those of its terms: only strict and weak comparisons have one
abbrev pub rule_form : Rule-F RuleForm TermForm → RuleForm
rule_form Always = no_form
rule_form (Below a b) = form_between a b (pos 1)
rule_form (AtMost a b) = form_between a b (pos 0)
rule_form (Equal a b) = no_form
rule_form (Differ a b) = no_form
rule_form (Both a b) = no_form
rule_form (Either a b) = no_form
rule_form (Not a) = no_form

abbrev pub form_of_term : Term → TermForm
form_of_term = fold-Term RuleForm TermForm rule_form term_form

abbrev pub form_of_rule : Rule → RuleForm
form_of_rule = fold-Rule RuleForm TermForm rule_form term_form

-- ---- weights

-- the greatest magnitude of an end of a slot, and at least 1
abbrev pub slot_weight : ℤ → ℤ → ℕ
slot_weight low high = max 1 (max (unsigned_abs low) (unsigned_abs high))

-- a term's weight, from those of its parts: a limit of its value in the box and of its factors
abbrev pub weight_of_parts : List Pair → Term-F ℕ ℕ → ℕ
weight_of_parts ends (Whole n) = max 1 (unsigned_abs n)
weight_of_parts ends (Slot slot) = slot_weight (low_at ends slot) (high_at ends slot)
weight_of_parts ends (Sum a b) = a + b
weight_of_parts ends (Less a b) = a + b
weight_of_parts ends (Times a b) = a * b
weight_of_parts ends (Truth rule) = 1

-- a rule's weight, from those of its terms
abbrev pub weight_of_terms : Rule-F ℕ ℕ → ℕ
weight_of_terms Always = 1
weight_of_terms (Below a b) = a + b
weight_of_terms (AtMost a b) = a + b
weight_of_terms (Equal a b) = 1
weight_of_terms (Differ a b) = 1
weight_of_terms (Both a b) = 1
weight_of_terms (Either a b) = 1
weight_of_terms (Not a) = 1

abbrev pub term_weight : List Pair → Term → ℕ
term_weight ends = fold-Term ℕ ℕ weight_of_terms (weight_of_parts ends)

abbrev pub rule_weight : List Pair → Rule → ℕ
rule_weight ends = fold-Rule ℕ ℕ weight_of_terms (weight_of_parts ends)

-- ---- linear rules

-- a rule is linear over a box if it has a form and its weight is at most 2^120
abbrev pub is_linear : List Pair → Rule → Bool
is_linear ends rule = (form_of_rule rule).linear && nat_le (rule_weight ends rule) (2 ^ 120)

-- the form of a rule over a box
abbrev pub linear_form : List Pair → Rule → RuleForm
linear_form ends rule = record {
  linear = is_linear ends rule;
  constant = (form_of_rule rule).constant;
  factor = (form_of_rule rule).factor;
  gap = (form_of_rule rule).gap;
}

-- the form of the rule of this number, over a box; there is none past the last rule
abbrev pub form_at : List Pair → List Rule → ℕ → RuleForm
form_at ends rules number = option_map_or (linear_form ends) (slice_get rules number) no_form

-- the weight of the rule of this number
abbrev pub weight_at : List Pair → List Rule → ℕ → ℕ
weight_at ends rules number = option_map_or (rule_weight ends) (slice_get rules number) 1

-- ---- sums

-- a form taken so many times, and another
abbrev pub form_and : ℕ → RuleForm → RuleForm → RuleForm
form_and times a b = record {
  linear = a.linear && b.linear;
  constant = (pos times *ℤ a.constant) +ℤ b.constant;
  factor = λ slot. (pos times *ℤ a.factor slot) +ℤ b.factor slot;
  gap = (pos times *ℤ a.gap) +ℤ b.gap;
}

-- the sum of no rules
abbrev pub empty_form : RuleForm
empty_form = record { linear = true; constant = pos 0; factor = no_factor; gap = pos 0 }

-- the sum of the picked rules, each taken as often as its pick says
abbrev pub sum_form : List Pair → List Rule → List Pick → RuleForm
sum_form ends rules [] = empty_form
sum_form ends rules (pick ∷ picks) = form_and pick.times (form_at ends rules pick.rule) (sum_form ends rules picks)

abbrev pub sum_weight : List Pair → List Rule → List Pick → ℕ
sum_weight ends rules [] = 0
sum_weight ends rules (pick ∷ picks) = pick.times * weight_at ends rules pick.rule + sum_weight ends rules picks

-- the least value of factors times slots in a box
abbrev pub least_in : (ℕ → ℤ) → List Pair → ℤ
least_in factor [] = pos 0
least_in factor (p ∷ ps) = int_min (factor 0 *ℤ p.low) (factor 0 *ℤ p.high) +ℤ least_in (λ slot. factor (suc slot)) ps

-- a statement that fails at each point of a box, by its least value there
abbrev pub is_false_form : RuleForm → List Pair → Bool
is_false_form form ends = int_lt (pos 0 -ℤ form.gap) (form.constant +ℤ least_in form.factor ends)

-- whether the sum of the picked rules is false on a box. The weights are those of the flat form's box
abbrev pub is_false_sum : Flat → List Pick → List Pair → Bool
is_false_sum flat picks ends =
    (sum_form flat.bounds.pairs flat.rules picks).linear
    && nat_le (sum_weight flat.bounds.pairs flat.rules picks) (2 ^ 120)
    && is_false_form (sum_form flat.bounds.pairs flat.rules picks) ends
