-- What the texts of types give by themselves, in types in which each `do` is unfolded.
use Rattle.std.proofs.Common.{◌≡◌, refl, ap, ap₂, ◌∙◌, ℕ, List, [], ◌∷◌, ◌++◌, map, reverse, Bool, true, false, None}
use Rattle.std.specs.Prelude.{flat_map, filter_map, option_to_list}
use Rattle.std.specs.Option.{option_map_or}
use Rattle.composition.specs.osc_base.declared.fault.Place.{Place}
use Rattle.composition.specs.osc_base.declared.path.Path.{Path}
use Rattle.composition.specs.osc_base.Paths.{then_name}
use Rattle.composition.specs.dsl_tree.declared.compounds.HeirCondition.{HeirCondition}
use Rattle.composition.specs.dsl_tree.ExprTree.{ExprTree}
use Rattle.composition.specs.dsl_tree.PhaseTree.{RuleTree}
use Rattle.composition.specs.dsl_tree.FileTree.{MemberTree, ModifierDeclTree}
use Rattle.composition.specs.type_heads.Table.{bases}
use Rattle.composition.specs.type_heads.Types.{Member, Field, Types}
use Rattle.composition.specs.type_heads.Members.{heir_condition, members, field, field_type, fields_declared}
use Rattle.composition.specs.declared.guard.Guard.{Guard}
use Rattle.composition.specs.Calls.{scope_at}
use Rattle.composition.specs.Givens.{Here, Given, FieldHere, given_rule, field_here, it_of, guards_under, given_initials, given_condition, given_conditions, given_field, given_member, own_givens}
use Rattle.modifier_meaning.specs.Unfolded.{unfolded_member}
use Rattle.modifier_meaning.specs.UnfoldedTypes.{unfolded_line, unfolded_types}
use Rattle.modifier_meaning.proofs.Lists.{flat_alike, map_alike, flat_of_map}
use Rattle.modifier_meaning.proofs.Members.{members_mapped, condition_same}
use Rattle.modifier_meaning.proofs.Scopes.{there_alike, scope_same, field_same, guards_same}

module _ (mods : List ModifierDeclTree) (ts : Types) where
  -- ---- texts that look at the table alone

  pub rule_same : (here : Here) (holder : Path) (under : List Guard) (r : RuleTree) → given_rule (unfolded_types mods ts) here holder under r ≡ given_rule ts here holder under r
  rule_same here holder under (RuleTree.Keep place kind e) = refl
  rule_same here holder under (RuleTree.Remove place path) = refl

  initials_same : (h : FieldHere) (is_list : Bool) (value : ExprTree) → given_initials (unfolded_types mods ts) h is_list value ≡ given_initials ts h is_list value
  initials_same h is_list value = refl

  condition_one : (h : FieldHere) (place : Place) (c : HeirCondition) (f : Field) → given_condition (unfolded_types mods ts) h place c f ≡ given_condition ts h place c f
  condition_one h place c f = refl

  -- ---- fields

  here_same : (object : Path) (t : ℕ) (f : Field) → field_here (unfolded_types mods ts) object t f ≡ field_here ts object t f
  here_same object t f =
      ap₂ (λ scope under. record { here = record { object = object; it = then_name object f.name.text; scope = scope }; under = under })
      (scope_same mods ts f.holder (it_of ts f) []) (guards_same mods ts object t f.under)

  conditions_same : (h : FieldHere) (place : Place) (t : ℕ) → given_conditions (unfolded_types mods ts) h place t ≡ given_conditions ts h place t
  conditions_same h place t =
      ap (flat_map (λ (c : HeirCondition). map (given_condition (unfolded_types mods ts) h place c) (option_to_list (field (unfolded_types mods ts) t c.field.text))))
      (there_alike (heir_condition (unfolded_types mods ts).bodies) (heir_condition ts.bodies) (condition_same mods ts.table.heads ts.bodies) (reverse (t ∷ bases ts.table.heads t)))
      ∙ flat_alike (λ (c : HeirCondition). map (given_condition (unfolded_types mods ts) h place c) (option_to_list (field (unfolded_types mods ts) t c.field.text)))
      (λ (c : HeirCondition). map (given_condition ts h place c) (option_to_list (field ts t c.field.text)))
      (λ c. ap (λ o. map (given_condition ts h place c) (option_to_list o)) (field_same mods ts t c.field.text)) (filter_map (heir_condition ts.bodies) (reverse (t ∷ bases ts.table.heads t)))

  -- what a field gives, where its texts stand there
  abbrev field_gives : Types → Path → Field → FieldHere → List Given
  field_gives types object f h =
      flat_map (given_conditions types h f.tree.of.place) (option_to_list (field_type types f))
      ++ map (given_rule types h.here object h.under) f.tree.rules
      ++ flat_map (given_initials types h (option_map_or (λ place. true) f.tree.list false)) (option_to_list f.tree.initial)

  gives_same : (object : Path) (f : Field) (h : FieldHere) → field_gives (unfolded_types mods ts) object f h ≡ field_gives ts object f h
  gives_same object f h =
      λ i. flat_alike (given_conditions (unfolded_types mods ts) h f.tree.of.place) (given_conditions ts h f.tree.of.place) (conditions_same h f.tree.of.place) (option_to_list (field_type ts f)) i
      ++ map_alike (given_rule (unfolded_types mods ts) h.here object h.under) (given_rule ts h.here object h.under) (rule_same h.here object h.under) f.tree.rules i
      ++ flat_alike (given_initials (unfolded_types mods ts) h (option_map_or (λ place. true) f.tree.list false)) (given_initials ts h (option_map_or (λ place. true) f.tree.list false))
      (initials_same h (option_map_or (λ place. true) f.tree.list false)) (option_to_list f.tree.initial) i

  field_gives_same : (object : Path) (t : ℕ) (f : Field) → given_field (unfolded_types mods ts) object t f ≡ given_field ts object t f
  field_gives_same object t f =
      ap (field_gives (unfolded_types mods ts) object f) (here_same object t f) ∙ gives_same object f (field_here ts object t f)

  -- ---- members

  member_gives_same : (object : Path) (t : ℕ) (m : Member) (member : MemberTree) →
      given_member (unfolded_types mods ts) object t (unfolded_line mods m) (unfolded_member mods member) ≡ given_member ts object t m member
  member_gives_same object t m (MemberTree.Field f) =
      flat_alike (given_field (unfolded_types mods ts) object t) (given_field ts object t) (field_gives_same object t) (fields_declared m (MemberTree.Field f))
  member_gives_same object t m (MemberTree.Rule r) =
      ap (λ g. g ∷ [])
      (rule_same (record { object = object; it = object; scope = scope_at (unfolded_types mods ts) m.holder None [] }) object (guards_under (unfolded_types mods ts) object t m.under) r
      ∙ ap₂ (λ scope under. given_rule ts (record { object = object; it = object; scope = scope }) object under r) (scope_same mods ts m.holder None []) (guards_same mods ts object t m.under))
  member_gives_same object t m (MemberTree.Do place phase) = refl

  pub own_same : (object : Path) (t : ℕ) → own_givens (unfolded_types mods ts) object t ≡ own_givens ts object t
  own_same object t =
      ap (flat_map (λ (m : Member). given_member (unfolded_types mods ts) object t m m.written.member)) (members_mapped mods ts t)
      ∙ flat_of_map (λ (m : Member). given_member (unfolded_types mods ts) object t m m.written.member) (unfolded_line mods) (members ts t)
      ∙ flat_alike (λ (m : Member). given_member (unfolded_types mods ts) object t (unfolded_line mods m) (unfolded_member mods m.written.member)) (λ (m : Member). given_member ts object t m m.written.member)
      (λ m. member_gives_same object t m m.written.member) (members ts t)
