-- What names mean, by the answers of types.
use Rattle.std.proofs.Common.{◌≡◌, ◌∙◌, refl, ap, ap₂, ℕ, List, [], ◌∷◌, Bool, Option, Some, None}
use Rattle.std.specs.Prelude.{option_map, ◌&&◌}
use Rattle.std.specs.Option.{option_map_or}
use Rattle.dsl_tree.specs.osc_base.declared.fault.Place.{Place}
use Rattle.dsl_tree.specs.osc_base.declared.fault.Fault.{Fault}
use Rattle.dsl_tree.specs.osc_base.declared.fault.FaultCode.{FaultCode}
use Rattle.dsl_tree.specs.osc_base.declared.path.Path.{Path}
use Rattle.dsl_tree.specs.osc_base.FaultRows.{row, first_fault}
use Rattle.dsl_tree.specs.osc_base.Paths.{root, then_name}
use Rattle.dsl_tree.specs.declared.parts.Ident.{Ident}
use Rattle.expr_nodes.specs.type_heads.declared.kinds.FieldType.{FieldType}
use Rattle.expr_nodes.specs.type_heads.Shown.{shown_field}
use Rattle.expr_nodes.specs.type_heads.Table.{Table, TableField, form, field_of, is_behaviour}
use Rattle.expr_nodes.specs.Scope.{Scope}
use Rattle.expr_nodes.specs.Names.{Meaning, Something, held_at, is_duration, duration_if, label_named, meaning, meaning_by_field, meaning_by_label, member_of_object, is_nothing, is_several, is_hidden, name_rows}

no_field : (x : Option TableField) → None ≡ option_map shown_field x → None ≡ x
no_field None h = refl
no_field (Some f) h = absurd (cc)

module _ (table : Table) (sc : Scope) (i : Ident) where
  pub field_found : (field : FieldType) (path : Path) → Some field ≡ option_map shown_field (field_of table sc.holder i.text) → path ≡ then_name root i.text
      → Something (held_at table i.place path field.of field.length) ≡ meaning table sc i
  field_found field path h same = by (field_of table sc.holder i.text) h
    where
      by : (x : Option TableField) → Some field ≡ option_map shown_field x → Something (held_at table i.place path field.of field.length) ≡ meaning_by_field table sc i x
      by None e = absurd (cc)
      by (Some f) e =
          let is : field ≡ shown_field f = cc in
          ap₂ (λ p g. Something (held_at table i.place p g.of g.length)) same is

  pub field_lost : None ≡ option_map shown_field (field_of table sc.holder i.text) → meaning_by_label table sc i (label_named sc i.text) ≡ meaning table sc i
  field_lost h = ap (meaning_by_field table sc i) (no_field (field_of table sc.holder i.text) h)

  pub name_faults : (m : Meaning) (hidden : Bool) (fault : Option Fault) → m ≡ meaning table sc i → hidden ≡ is_hidden table sc i.text
      → fault ≡ first_fault (row i.place FaultCode.Unknown (is_nothing m) ∷ row i.place FaultCode.Ambiguous (is_several m) ∷ row i.place FaultCode.ChoiceLabel hidden ∷ [])
      → fault ≡ first_fault (name_rows table sc i)
  name_faults m hidden fault same also h =
      h ∙ ap₂ (λ n b. first_fault (row i.place FaultCode.Unknown (is_nothing n) ∷ row i.place FaultCode.Ambiguous (is_several n) ∷ row i.place FaultCode.ChoiceLabel b ∷ [])) same also

module _ (table : Table) (place : Place) (path : Path) (t : ℕ) (name : List ℕ) where
  pub member_found : (field : FieldType) (longer : Path) → Some field ≡ option_map shown_field (field_of table t name) → longer ≡ then_name path name
      → Something (held_at table place longer field.of field.length) ≡ member_of_object table place path t name
  member_found field longer h same = by (field_of table t name) h
    where
      by : (x : Option TableField) → Some field ≡ option_map shown_field x
          → Something (held_at table place longer field.of field.length)
          ≡ option_map_or (λ (f : TableField). Something (held_at table place (then_name path name) f.of f.length)) x (duration_if place path (is_duration name && is_behaviour (form table.heads t)))
      by None e = absurd (cc)
      by (Some f) e =
          let is : field ≡ shown_field f = cc in
          ap₂ (λ p g. Something (held_at table place p g.of g.length)) same is

  pub member_lost : None ≡ option_map shown_field (field_of table t name) → duration_if place path (is_duration name && is_behaviour (form table.heads t)) ≡ member_of_object table place path t name
  member_lost h = ap (λ x. option_map_or (λ (f : TableField). Something (held_at table place (then_name path name) f.of f.length)) x (duration_if place path (is_duration name && is_behaviour (form table.heads t)))) (no_field (field_of table t name) h)
