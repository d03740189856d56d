-- The amount of a condition, by whether the field is there.
use Rattle.std.proofs.Common.{◌≡◌, ◌∙◌, sym, ap, ℕ, ◌+◌, Option, Some, None, cond, is_some, option_map}
use Rattle.std.specs.Option.{option_map_or}
use Rattle.dsl_tree.specs.declared.compounds.HeirCondition.{HeirCondition}
use Rattle.program_texts.specs.type_heads.Types.{Field, Types}
use Rattle.program_texts.specs.type_heads.Members.{field, heir_condition}
use Rattle.program_texts.specs.composition.Tokens.{value_tokens}
use Rattle.program_texts.specs.program_fields.SeenFields.{seen_field}
use Rattle.program_texts.specs.program_fields.declared.fields.TypeField.{TypeField}
use Rattle.work_counts.specs.Amounts.{no_amount}
use Rattle.work_counts.specs.TextAmounts.{base_amount, heir_amount}

module _ (ts : Types) (t : ℕ) (c : HeirCondition) (o : Option TypeField) (told : option_map seen_field o ≡ field ts t c.field.text) where
  pub heir_some : (f : TypeField) → o ≡ Some f → (record { rules = 1; tokens = 2 + value_tokens c.value }) ≡ heir_amount ts t c
  heir_some f is = ap (λ (p : Option Field). cond (is_some p) (record { rules = 1; tokens = 2 + value_tokens c.value }) no_amount) (ap (option_map seen_field) (sym is) ∙ told)

  pub heir_none : o ≡ None → no_amount ≡ heir_amount ts t c
  heir_none is = ap (λ (p : Option Field). cond (is_some p) (record { rules = 1; tokens = 2 + value_tokens c.value }) no_amount) (ap (option_map seen_field) (sym is) ∙ told)

pub base_none : (ts : Types) (t b : ℕ) → None ≡ heir_condition ts.bodies b → no_amount ≡ base_amount ts t b
base_none ts t b is = ap (λ o. option_map_or (heir_amount ts t) o no_amount) is

pub base_some : (ts : Types) (t b : ℕ) (c : HeirCondition) → Some c ≡ heir_condition ts.bodies b → heir_amount ts t c ≡ base_amount ts t b
base_some ts t b c is = ap (λ o. option_map_or (heir_amount ts t) o no_amount) is
