-- The faults of headings: names that are declared twice or not at all, types that depend on themselves, and names of a wrong kind.
use Rattle.std.specs.Prelude.{ℕ, suc, ◌+◌, ◌&&◌, ◌||◌, Bool, true, false, not, cond, List, [], ◌∷◌, ◌++◌, Option, Some, None, map, length, nat_eq, nat_lt, bytes_eq, is_none, is_some, flat_map, filter_map, option_and_then}
use Rattle.std.specs.Option.{option_map_or}
use Rattle.std.specs.List.{list_any}
use Rattle.units_si.specs.osc_base.declared.fault.Place.{Place}
use Rattle.units_si.specs.osc_base.declared.fault.FaultCode.{FaultCode}
use Rattle.units_si.specs.osc_base.FaultRows.{FaultRow, row}
use Rattle.name_scope.specs.dsl_tree.declared.parts.Ident.{Ident}
use Rattle.name_scope.specs.dsl_tree.declared.parts.QName.{QName}
use Rattle.name_scope.specs.dsl_tree.declared.units.BasePart.{BasePart}
use Rattle.name_scope.specs.dsl_tree.declared.units.UnitDecl.{UnitDecl}
use Rattle.name_scope.specs.dsl_tree.declared.enums.EnumItem.{EnumItem}
use Rattle.name_scope.specs.dsl_tree.declared.compounds.ConditionValue.{ConditionValue}
use Rattle.name_scope.specs.dsl_tree.declared.compounds.HeirCondition.{HeirCondition}
use Rattle.name_scope.specs.dsl_tree.declared.compounds.Heir.{Heir}
use Rattle.name_scope.specs.dsl_tree.FileTree.{FieldTree, MemberTree, CompoundTree, DeclarationTree}
use Rattle.name_scope.specs.declared.ids.NameKind.{NameKind}
use Rattle.name_scope.specs.Declaring.{DeclaredName, named as name_as, compound_name, same_owner}
use Rattle.units_si.specs.declared.units.Exponents.{Exponents}
use Rattle.units_si.specs.ExponentTests.{same_exponents}
use Rattle.type_heads.specs.Form.{Form, EnumMember, greatest_value}
use Rattle.type_heads.specs.Table.{TypeHead, form, bases, named, owner, is_kind_of, is_actor, is_enum, is_behaviour, is_object, has_members, is_compound, all_types}
use Rattle.type_heads.specs.Types.{Program, Written, TypeBody, Types}
use Rattle.type_heads.specs.Members.{body, has, subtypes}
use Rattle.type_heads.specs.Cycles.{fresh, reached, returns}
use Rattle.type_heads.specs.Units.{is_base_unit, exponents_of}
use Rattle.type_heads.specs.DeclaredTypes.{Placed, placed, Declared, basic_types, all_declared, meant, items_with, numbered_from}

-- Names that are declared twice

-- the name that a declaration declares; extensions declare none
abbrev pub name_declared : DeclarationTree → Option DeclaredName
name_declared (DeclarationTree.TypeDeclaration d) = Some (name_as NameKind.TypeName None d.name)
name_declared (DeclarationTree.UnitDeclaration d) = Some (name_as NameKind.UnitName None d.name)
name_declared (DeclarationTree.EnumDeclaration d) = Some (name_as NameKind.TypeName None d.name)
name_declared (DeclarationTree.CompoundDeclaration d) = Some (compound_name d.kind d.name)
name_declared (DeclarationTree.MemberExtension d) = None
name_declared (DeclarationTree.EnumExtension d) = None

-- units have a space of names of their own; types and behaviours share one
abbrev pub is_unit_name : NameKind → Bool
is_unit_name NameKind.UnitName = true
is_unit_name _ = false

-- both names are of units, or neither is
abbrev pub same_space : NameKind → NameKind → Bool
same_space a b = (is_unit_name a && is_unit_name b) || not (is_unit_name a || is_unit_name b)

-- two declarations declare one name
abbrev pub shares_name : DeclaredName → DeclaredName → Bool
shares_name a b = same_space a.kind b.kind && (same_owner a.owner b.owner && bytes_eq a.name b.name)

-- the basic types count as declared
abbrev pub basic_names : List DeclaredName
basic_names = map (λ (d : Declared). record { kind = NameKind.TypeName; owner = None; name = d.head.name; place = d.body.place }) basic_types

-- a name that is declared before
abbrev pub twice_rows : List DeclaredName → List DeclaredName → List FaultRow
twice_rows earlier [] = []
twice_rows earlier (d ∷ ds) = row d.place FaultCode.Twice (list_any (shares_name d) earlier) ∷ twice_rows (d ∷ earlier) ds

-- a base unit that is none of the eight, or is mentioned before in the same brackets
abbrev pub bracket_rows : List (List ℕ) → List BasePart → List FaultRow
bracket_rows earlier [] = []
bracket_rows earlier (p ∷ ps) =
    row p.name.place FaultCode.Twice (list_any (bytes_eq p.name.text) earlier)
    ∷ row p.name.place FaultCode.Unknown (not (is_base_unit p.name.text))
    ∷ bracket_rows (p.name.text ∷ earlier) ps

-- Members of enums

-- where the number of a member stands, or else its name
abbrev pub number_place : EnumItem → Place
number_place i = option_map_or (λ d. d.place) i.number i.name.place

-- two members of an enum have one name or one number
abbrev pub shares_item : EnumMember → EnumMember → Bool
shares_item a b = bytes_eq a.name b.name || nat_eq a.number b.number

-- a member that its enum has before, and a number that is too large
abbrev pub item_rows : List EnumMember → List EnumItem → List EnumMember → List FaultRow
item_rows earlier (i ∷ is) (m ∷ ms) =
    row i.name.place FaultCode.Twice (list_any (shares_item m) earlier)
    ∷ row (number_place i) FaultCode.TooLarge (nat_lt greatest_value m.number)
    ∷ item_rows (m ∷ earlier) is ms
item_rows earlier _ _ = []

-- the members of all enums, from type t on
abbrev pub enum_rows_from : List TypeHead → List Placed → ℕ → List Declared → List FaultRow
enum_rows_from heads all t [] = []
enum_rows_from heads all t (d ∷ ds) =
    let items = cond (is_enum d.head.form) (items_with heads all t d.items) [] in
    item_rows [] items (numbered_from 0 items) ++ enum_rows_from heads all (t + 1) ds

-- Names that are used

-- a type or a behaviour without an owner isn't declared
abbrev pub unknown_row : List TypeHead → Ident → FaultRow
unknown_row heads i = row i.place FaultCode.Unknown (is_none (named heads None i.text))

-- a declared type that doesn't pass the test
abbrev pub kind_row : List TypeHead → (Form → Bool) → Ident → FaultRow
kind_row heads fits i = row i.place FaultCode.WrongKind (option_map_or (λ t. not (fits (form heads t))) (named heads None i.text) false)

-- what is to be an owner
abbrev pub owner_rows : List TypeHead → Ident → List FaultRow
owner_rows heads i = unknown_row heads i ∷ kind_row heads is_actor i ∷ []

-- a name with or without an owner
abbrev pub name_rows : List TypeHead → Ident → Option Ident → List FaultRow
name_rows heads name None = unknown_row heads name ∷ []
name_rows heads owner (Some name) =
    row name.place FaultCode.Unknown (is_some (named heads None owner.text) && is_none (named heads (Some owner.text) name.text)) ∷ owner_rows heads owner

-- the name after the point, or the only one
abbrev pub last_name : QName → Ident
last_name q = option_map_or (λ i. i) q.second q.first

-- a declared type, of a name with or without an owner, that doesn't pass the test
abbrev pub meant_row : List TypeHead → (ℕ → Bool) → QName → FaultRow
meant_row heads fits q = row (last_name q).place FaultCode.WrongKind (option_map_or (λ t. not (fits t)) (meant heads q) false)

-- Types and units

-- a physical type
abbrev pub is_physical : Form → Bool
is_physical (Form.Physical exponents) = true
is_physical _ = false

-- the exponents of a unit aren't those of a physical type; brackets with a fault aren't judged
abbrev pub differ : Option Exponents → Form → Bool
differ (Some x) (Form.Physical (Some y)) = not (same_exponents x y)
differ _ _ = false

-- a unit is of a physical type with its exponents
abbrev pub unit_rows : List TypeHead → UnitDecl → List FaultRow
unit_rows heads d =
    bracket_rows [] d.bases
    ++ unknown_row heads d.of
    ∷ kind_row heads is_physical d.of
    ∷ row d.name.place FaultCode.UnitClash (option_map_or (λ t. differ (exponents_of d.bases) (form heads t)) (named heads None d.of.text) false)
    ∷ []

-- a field isn't of action or scenario type, and the elements of a list are no objects either
abbrev pub can_hold : FieldTree → Form → Bool
can_hold f form = not (is_behaviour form || (is_some f.list && is_object form))

-- the type of a field
abbrev pub member_rows : List TypeHead → MemberTree → List FaultRow
member_rows heads (MemberTree.Field f) = unknown_row heads f.of ∷ kind_row heads (can_hold f) f.of ∷ []
member_rows heads (MemberTree.Rule r) = []
member_rows heads (MemberTree.Do place phase) = []

-- Types that inherit

-- the enum of `inherits B(f == e!v)`
abbrev pub value_rows : List TypeHead → ConditionValue → List FaultRow
value_rows heads (ConditionValue.EnumName of member) = unknown_row heads of ∷ []
value_rows heads _ = []

-- A behaviour may inherit from one without an owner, or from one whose owner is its own owner or a base of that. Without an owner it
-- inherits from one without an owner.
abbrev pub fits_owner : List TypeHead → Option ℕ → Option ℕ → Bool
fits_owner heads own None = true
fits_owner heads None (Some other) = false
fits_owner heads (Some own) (Some other) = is_kind_of heads other own

-- the actor that owns a behaviour that is declared
abbrev pub own_owner : List TypeHead → CompoundTree → Option ℕ
own_owner heads d = let name : DeclaredName = compound_name d.kind d.name in option_and_then (named heads None) name.owner

-- a type inherits from one of its own kind
abbrev pub fits_base : List TypeHead → CompoundTree → ℕ → Bool
fits_base heads d b = is_compound d.kind (form heads b) && fits_owner heads (own_owner heads d) (owner heads b)

-- what a type inherits from
abbrev pub heir_rows : List TypeHead → CompoundTree → Heir → List FaultRow
heir_rows heads d h =
    name_rows heads h.base.first h.base.second
    ++ meant_row heads (fits_base heads d) h.base
    ∷ option_map_or (λ (c : HeirCondition). value_rows heads c.value) h.condition []

-- a type with members
abbrev pub compound_rows : List TypeHead → CompoundTree → List FaultRow
compound_rows heads d =
    option_map_or (λ name. owner_rows heads d.name.first) d.name.second []
    ++ option_map_or (heir_rows heads d) d.heir []
    ++ flat_map (member_rows heads) d.members

-- the names that a declaration uses
abbrev pub declaration_rows : List TypeHead → DeclarationTree → List FaultRow
declaration_rows heads (DeclarationTree.TypeDeclaration d) = bracket_rows [] d.bases
declaration_rows heads (DeclarationTree.UnitDeclaration d) = unit_rows heads d
declaration_rows heads (DeclarationTree.EnumDeclaration d) = []
declaration_rows heads (DeclarationTree.CompoundDeclaration d) = compound_rows heads d
declaration_rows heads (DeclarationTree.MemberExtension d) =
    name_rows heads d.name.first d.name.second ++ meant_row heads (λ t. has_members (form heads t)) d.name ∷ flat_map (member_rows heads) d.members
declaration_rows heads (DeclarationTree.EnumExtension d) = name_rows heads d.name.first d.name.second ++ meant_row heads (λ t. is_enum (form heads t)) d.name ∷ []

-- Types that depend on themselves

-- the type of a field
abbrev pub field_types : List TypeHead → Written → MemberTree → List ℕ
field_types heads w (MemberTree.Field f) = option_map_or (λ t. t ∷ []) (named heads None f.of.text) []
field_types heads w (MemberTree.Rule r) = []
field_types heads w (MemberTree.Do place phase) = []

-- the types whose members an object of type t may have: t, its bases, and the conditional subtypes of all these
abbrev pub family : List TypeHead → List TypeBody → ℕ → List ℕ
family heads bodies t = reached (suc (length heads)) (subtypes heads bodies) [] (fresh [] (t ∷ bases heads t))

-- the types that a type holds: those of the fields that its family declares; a type without members holds none
abbrev pub held_types : List TypeHead → List TypeBody → ℕ → List ℕ
held_types heads bodies t =
    cond (has_members (form heads t))
    (flat_map (λ u. flat_map (λ (w : Written). field_types heads w w.member) ((body bodies u).own ++ (body bodies u).more)) (family heads bodies t))
    []

-- a type with members that inherits from itself or holds itself
abbrev pub cycle_row : List TypeHead → List TypeBody → ℕ → FaultRow
cycle_row heads bodies t =
    row (body bodies t).place FaultCode.Cycle (has_members (form heads t) && (has t (bases heads t) || returns (length heads) (held_types heads bodies) t))

-- the faults of all headings
abbrev pub heading_rows : Program → Types → List FaultRow
heading_rows p ts =
    let heads = ts.table.heads in
    let all = placed p in
    twice_rows basic_names (filter_map (λ (d : Placed). name_declared d.declaration) all)
    ++ flat_map (λ (d : Placed). declaration_rows heads d.declaration) all
    ++ enum_rows_from heads all 0 (all_declared all)
    ++ map (cycle_row heads ts.bodies) (all_types heads)
