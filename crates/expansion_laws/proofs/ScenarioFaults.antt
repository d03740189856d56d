-- The fault of the named scenario: it isn't there, or it is too large.
use Rattle.std.proofs.Common.{◌≡◌, ℕ, Bool, true, false, List, [], ◌∷◌, ◌∙◌, Option, Some, None, ap}
use Rattle.composition.specs.osc_base.declared.fault.Place.{Place}
use Rattle.composition.specs.osc_base.declared.fault.FaultCode.{FaultCode}
use Rattle.composition.specs.osc_base.declared.fault.Fault.{Fault}
use Rattle.composition.specs.osc_base.FaultRows.{row, first_fault}
use Rattle.composition.specs.type_heads.Types.{Types}
use Rattle.composition.specs.type_heads.Members.{body}
use Rattle.composition.specs.declared.setting.Setting.{Setting}
use Rattle.composition.specs.SceneFaults.{named_scenario, is_too_large, rows_of, scene_rows}

module _ (ts : Types) (end : Place) (owner : Option (List ℕ)) (name : List ℕ) (setting : Setting) where
  -- the scenario isn't there
  pub no_scenario : named_scenario ts owner name ≡ None → first_fault (scene_rows ts end owner name setting) ≡ Some (record { place = end; code = FaultCode.NoScenario })
  no_scenario is = ap (λ (t : Option ℕ). first_fault (rows_of ts end setting t)) is

  judged : (t : ℕ) (large : Bool) → is_too_large ts t setting ≡ large
      → first_fault (rows_of ts end setting (Some t)) ≡ first_fault (row (body ts.bodies t).place FaultCode.TooMany large ∷ [])
  judged t large same = ap (λ (b : Bool). first_fault (row (body ts.bodies t).place FaultCode.TooMany b ∷ [])) same

  -- it is too large
  pub too_many : (t : ℕ) → named_scenario ts owner name ≡ Some t → is_too_large ts t setting ≡ true
      → first_fault (scene_rows ts end owner name setting) ≡ Some (record { place = (body ts.bodies t).place; code = FaultCode.TooMany })
  too_many t is large = ap (λ (n : Option ℕ). first_fault (rows_of ts end setting n)) is ∙ judged t true large

  -- it is neither
  pub no_fault : (t : ℕ) → named_scenario ts owner name ≡ Some t → is_too_large ts t setting ≡ false → first_fault (scene_rows ts end owner name setting) ≡ None
  no_fault t is fits = ap (λ (n : Option ℕ). first_fault (rows_of ts end setting n)) is ∙ judged t false fits
