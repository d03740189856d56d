-- A sum of rules that a flat form lacks isn't false.
use Rattle.std.proofs.Common.{◌≡◌, refl, sym, ap, ◌∙◌, ℕ, ◌^◌, ◌≤◌, Bool, true, false, ◌&&◌, nat_le, nat_lt, List, [], ◌∷◌, length, slice_get, Option, Some, None, arith}
use Rattle.std.proofs.lemmas.Bool.{false≢true, and_parts, ltb-true}
use Rattle.std.proofs.lemmas.Option.{slice_get_past}
use Rattle.std.specs.Option.{option_map_or}
use Rattle.box_eval.specs.declared.rule.Rule.{Rule}
use Rattle.box_eval.specs.declared.bounds.Pair.{Pair}
use Rattle.box_eval.specs.declared.flat.Flat.{Flat}
use Rattle.linear_sums.specs.declared.pick.Pick.{Pick}
use Rattle.linear_sums.specs.Linear.{RuleForm, is_false_sum, sum_form, form_at, linear_form, no_form, sum_weight, is_false_form}
use Rattle.linear_sums.specs.Sums.{are_there, AllThere}
use Rattle.record_trees.specs.Record.{may_stand, may_add}

pub all_there : (rules : List Rule) (picks : List Pick) → are_there rules picks ≡ true → AllThere rules picks
all_there rules [] h = tt
all_there rules (p ∷ ps) h =
    let both = and_parts (nat_lt p.rule (length rules)) (are_there rules ps) h in (ltb-true p.rule (length rules) both.0, all_there rules ps both.1)

past : (k n : ℕ) → nat_lt k n ≡ false → n ≤ k
past k n h = grind arith

no_second : (a : Bool) → a && false ≡ false
no_second true = refl
no_second false = refl

unlisted : (ends : List Pair) (rules : List Rule) (k : ℕ) → nat_lt k (length rules) ≡ false → (form_at ends rules k).linear ≡ false
unlisted ends rules k h = ap (λ (o : Option Rule). (option_map_or (linear_form ends) o no_form).linear) (slice_get_past rules k (past k (length rules) h))

not_linear : (ends : List Pair) (rules : List Rule) (picks : List Pick) → are_there rules picks ≡ false → (sum_form ends rules picks).linear ≡ false
not_linear ends rules [] h = h
not_linear ends rules (p ∷ ps) h = by_first (not_linear ends rules ps) (nat_lt p.rule (length rules)) refl
  where
    by_first : (are_there rules ps ≡ false → (sum_form ends rules ps).linear ≡ false) → (b : Bool) → nat_lt p.rule (length rules) ≡ b → (form_at ends rules p.rule).linear && (sum_form ends rules ps).linear ≡ false
    by_first later false is = ap (λ b. b && (sum_form ends rules ps).linear) (unlisted ends rules p.rule is)
    by_first later true is = ap (λ b. (form_at ends rules p.rule).linear && b) (later (ap (λ b. b && are_there rules ps) (sym is) ∙ h)) ∙ no_second (form_at ends rules p.rule).linear

missing_sum : (flat : Flat) (ends : List Pair) (picks : List Pick) → are_there flat.rules picks ≡ false → is_false_sum flat picks ends ≡ false
missing_sum flat ends picks h =
    ap (λ b. b && nat_le (sum_weight flat.bounds.pairs flat.rules picks) (2 ^ 120) && is_false_form (sum_form flat.bounds.pairs flat.rules picks) ends) (not_linear flat.bounds.pairs flat.rules picks h)

pub missing : (flat : Flat) (ends : List Pair) (picks : List Pick) → are_there flat.rules picks ≡ false → false ≡ may_add flat ends picks
missing flat ends picks h = sym (ap (λ b. may_stand picks && b) (missing_sum flat ends picks h) ∙ no_second (may_stand picks))

pub adds : (flat : Flat) (ends : List Pair) (picks : List Pick) (b : Bool) → may_stand picks ≡ true → b ≡ is_false_sum flat picks ends → b ≡ may_add flat ends picks
adds flat ends picks b stand is = is ∙ sym (ap (λ s. s && is_false_sum flat picks ends) stand)

-- the rules of a sum that is false are there
pub false_there : (flat : Flat) (ends : List Pair) (picks : List Pick) → is_false_sum flat picks ends ≡ true → AllThere flat.rules picks
false_there flat ends picks h = by_there (are_there flat.rules picks) refl
  where
    by_there : (b : Bool) → are_there flat.rules picks ≡ b → AllThere flat.rules picks
    by_there true is = all_there flat.rules picks is
    by_there false is = absurd (false≢true (sym (missing_sum flat ends picks is) ∙ h))
