-- Units of literals, by the answers of types.
use Rattle.std.proofs.Common.{◌≡◌, refl, ap, ℕ, List, [], ◌∷◌, true, false, Option, Some, None}
use Rattle.std.specs.Prelude.{option_map, option_and_then, is_none}
use Rattle.std.specs.Option.{option_map_or}
use Rattle.dsl_tree.specs.osc_base.declared.fault.Fault.{Fault}
use Rattle.dsl_tree.specs.osc_base.declared.fault.FaultCode.{FaultCode}
use Rattle.dsl_tree.specs.osc_base.FaultRows.{row, row_fault, first_fault}
use Rattle.dsl_tree.specs.osc_base.LowestTerms.{lowest}
use Rattle.dsl_tree.specs.declared.parts.Digits.{Digits}
use Rattle.expr_nodes.specs.type_heads.Table.{Table, TableUnit, unit}
use Rattle.expr_nodes.specs.type_heads.Shown.{UnitParts, unit_parts}
use Rattle.expr_nodes.specs.Kinds.{ValueKind}
use Rattle.expr_nodes.specs.Typed.{Typed}
use Rattle.expr_nodes.specs.Operators.{constant_at, count_in, physical_rows, physical_typed}
use Rattle.expr_nodes.specs.SeenNames.{count_of, physical_of}

module _ (table : Table) (d : Digits) (name : List ℕ) where
  -- the faults, if that is what the name stands for
  abbrev rows_of : Option TableUnit → Option Fault
  rows_of x = first_fault (row d.place FaultCode.Unknown (is_none x) ∷ row d.place FaultCode.TooLarge (option_map_or (λ u. is_none (count_in d u)) x false) ∷ [])

  abbrev typed_as : Option TableUnit → Option Typed
  typed_as x = option_and_then (λ (u : TableUnit). option_and_then (λ e. option_map (λ n. constant_at d.place (ValueKind.Number e) (lowest n 1000)) (count_in d u)) u.exponents) x

  pub unit_faults : (u : UnitParts) → Some u ≡ option_map unit_parts (unit table name) → row_fault (row d.place FaultCode.TooLarge (is_none (count_of d u))) ≡ first_fault (physical_rows table d name)
  unit_faults u h = by (unit table name) h
    where
      by : (x : Option TableUnit) → Some u ≡ option_map unit_parts x → row_fault (row d.place FaultCode.TooLarge (is_none (count_of d u))) ≡ rows_of x
      by None e = absurd (cc)
      by (Some t) e =
          let is : u ≡ unit_parts t = cc in
          ap (λ v. row_fault (row d.place FaultCode.TooLarge (is_none (count_of d v)))) is

  pub unit_typed : (u : UnitParts) → Some u ≡ option_map unit_parts (unit table name) → physical_of d u ≡ physical_typed table d name
  unit_typed u h = by (unit table name) h
    where
      by : (x : Option TableUnit) → Some u ≡ option_map unit_parts x → physical_of d u ≡ typed_as x
      by None e = absurd (cc)
      by (Some t) e =
          let is : u ≡ unit_parts t = cc in
          ap (physical_of d) is

  no_unit : (x : Option TableUnit) → None ≡ option_map unit_parts x → None ≡ x
  no_unit None h = refl
  no_unit (Some t) h = absurd (cc)

  pub lost_faults : None ≡ option_map unit_parts (unit table name) → row_fault (row d.place FaultCode.Unknown true) ≡ first_fault (physical_rows table d name)
  lost_faults h = ap rows_of (no_unit (unit table name) h)

  pub lost_typed : None ≡ option_map unit_parts (unit table name) → None ≡ physical_typed table d name
  lost_typed h = ap typed_as (no_unit (unit table name) h)
