-- A unit that is found has exponents.
use Rattle.std.proofs.Common.{◌≡◌, ◌∙◌, ap, ℕ, List, Option, Some, None, true, cond, bytes_eq, option_map}
use Rattle.std.specs.Prelude.{find, is_some}
use Rattle.std.specs.Option.{option_map_or}
use Rattle.string_texts.specs.type_heads.Table.{TableUnit}
use Rattle.type_model.specs.Kept.{is_sound_unit}
use Rattle.string_texts.specs.type_heads.Shown.{UnitParts, unit_parts}

pub unit_found : (units : List TableUnit) (name : List ℕ) (u : TableUnit) (shown : Option UnitParts) → is_sound_unit units name ≡ true →
    Some u ≡ find (λ (u : TableUnit). bytes_eq u.name name) units → shown ≡ cond (is_some u.exponents) (Some (unit_parts u)) None →
    shown ≡ option_map unit_parts (find (λ (u : TableUnit). bytes_eq u.name name) units)
unit_found units name u shown sound is as_cond =
    let there : is_some u.exponents ≡ true = ap (λ o. option_map_or (λ (u : TableUnit). is_some u.exponents) o true) is ∙ sound in
    as_cond ∙ ap (λ b. cond b (Some (unit_parts u)) None) there ∙ ap (option_map unit_parts) is
