-- The rule of a number, as code reads it.
use Rattle.std.proofs.Common.{◌≡◌, refl, sym, ap, ◌∙◌, Bool, true, false, ◌&&◌, nat_le, ◌^◌, ℕ, zero, suc, ◌<◌, ◌≤◌, List, [], ◌∷◌, length, slice_get, slice_index_or, Option, Some, arith}
use Rattle.box_eval.specs.declared.rule.Rule.{Rule}
use Rattle.box_eval.specs.declared.flat.Flat.{Flat}
use Rattle.box_eval.specs.Reach.{slot_bound}
use Rattle.box_eval.specs.Rules.{IsFlat}
use Rattle.box_eval.proofs.Fits.{fits_at}
use Rattle.std.specs.Option.{option_map_or}
use Rattle.linear_sums.specs.Linear.{RuleForm, no_form, linear_form, form_at, weight_at, rule_weight, form_of_rule}

pub get_found : (rules : List Rule) (k : ℕ) (rule : Rule) → k < length rules → rule ≡ slice_index_or rules k rule → slice_get rules k ≡ Some rule
get_found [] k rule h e = absurd (omega arith)
get_found (r ∷ rs) zero rule h e = ap Some (sym e)
get_found (r ∷ rs) (suc k) rule h e = get_found rs k rule (omega (arith, h)) e

pub found_slots : (flat : Flat) (k : ℕ) (rule : Rule) → IsFlat flat → slice_get flat.rules k ≡ Some rule → slot_bound rule ≤ length flat.bounds.pairs
found_slots flat k rule is found = (fits_at flat.bounds.pairs flat.rules k rule is.fit found).slots

-- what is known of the rule of a number
pub record IsFound (flat : Flat) (k : ℕ) (rule : Rule) : Type 0 where
  pub there : slice_get flat.rules k ≡ Some rule
  pub slots : slot_bound rule ≤ length flat.bounds.pairs
  pub form : form_at flat.bounds.pairs flat.rules k ≡ linear_form flat.bounds.pairs rule
  pub weight : weight_at flat.bounds.pairs flat.rules k ≡ rule_weight flat.bounds.pairs rule

pub found_rule : (flat : Flat) (k : ℕ) (rules : List Rule) (rule : Rule) → IsFlat flat → k < length flat.rules → rules ≡ flat.rules → rule ≡ slice_index_or rules k rule → IsFound flat k rule
found_rule flat k rules rule is less same read =
    let there = get_found flat.rules k rule less (read ∙ ap (λ (rs : List Rule). slice_index_or rs k rule) same) in
    record {
      there = there;
      slots = found_slots flat k rule is there;
      form = ap (λ (o : Option Rule). option_map_or (linear_form flat.bounds.pairs) o no_form) there;
      weight = ap (λ (o : Option Rule). option_map_or (rule_weight flat.bounds.pairs) o 1) there;
    }

linear_small : (form small : Bool) → form && small ≡ true → small ≡ true
linear_small true small e = e
linear_small false true e = refl
linear_small false false e = e

-- a rule that is linear weighs at most 2^120
pub light_rule : (flat : Flat) (k : ℕ) (rule : Rule) → IsFound flat k rule → (form_at flat.bounds.pairs flat.rules k).linear ≡ true → rule_weight flat.bounds.pairs rule ≤ 2 ^ 120
light_rule flat k rule found linear =
    let e = linear_small (form_of_rule rule).linear (nat_le (rule_weight flat.bounds.pairs rule) (2 ^ 120)) (sym (ap (λ (f : RuleForm). f.linear) found.form) ∙ linear) in
    grind arith
