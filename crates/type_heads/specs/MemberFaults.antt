-- The faults of members: names that a member list has twice, `do` at a place that can't have one, initial values of a wrong form, and conditions.
use Rattle.std.specs.Prelude.{ℕ, ◌&&◌, ◌||◌, Bool, true, false, not, cond, List, [], ◌∷◌, ◌++◌, Option, Some, None, length, nat_eq, nat_lt, bytes_eq, codes, is_none, is_some, flat_map, filter, option_and_then, option_to_list}
use Rattle.std.specs.Option.{option_map_or}
use Rattle.std.specs.List.{list_any}
use Rattle.units_si.specs.osc_base.declared.fault.Place.{Place}
use Rattle.units_si.specs.osc_base.declared.fault.FaultCode.{FaultCode}
use Rattle.units_si.specs.osc_base.FaultRows.{FaultRow, row}
use Rattle.name_scope.specs.dsl_tree.declared.parts.Ident.{Ident}
use Rattle.name_scope.specs.dsl_tree.declared.compounds.ConditionValue.{ConditionValue}
use Rattle.name_scope.specs.dsl_tree.declared.compounds.HeirCondition.{HeirCondition}
use Rattle.name_scope.specs.dsl_tree.ExprTree.{ExprTree, items_of}
use Rattle.name_scope.specs.dsl_tree.PhaseTree.{PhaseTree, Comp, Invoke, Wait, PhaseRow, End, Phase}
use Rattle.name_scope.specs.dsl_tree.FileTree.{MemberTree}
use Rattle.type_heads.specs.Form.{Form}
use Rattle.type_heads.specs.Table.{TypeHead, form, base, bases, named, number_of, is_enum, is_object, is_behaviour, is_scenario, all_types}
use Rattle.type_heads.specs.Types.{Member, Field, Do, Types}
use Rattle.type_heads.specs.Members.{heir_condition, is_conditional, members, field, field_type, dos}
use Rattle.type_heads.specs.Cycles.{returns}

-- Names of members

-- the labels of a phase and of those in it, in order
abbrev mutual
  pub labels_in : PhaseTree → List Ident
  labels_in (Comp label place kind arguments members) = option_to_list label ++ labels_among members
  labels_in (Invoke label head names arguments parts) = option_to_list label
  labels_in (Wait label place elapsed) = option_to_list label

  pub labels_among : PhaseRow → List Ident
  labels_among End = []
  labels_among (Phase phase others) = labels_in phase ++ labels_among others

-- the names and labels of a member
abbrev pub member_names : MemberTree → List Ident
member_names (MemberTree.Field f) = f.names
member_names (MemberTree.Rule r) = []
member_names (MemberTree.Do place phase) = labels_in phase

-- the names and labels of a member list
abbrev pub names_among : List Member → List Ident
names_among members = flat_map (λ (m : Member). member_names m.written.member) members

-- a name that is there before
abbrev pub repeated_rows : List (List ℕ) → List Ident → List FaultRow
repeated_rows earlier [] = []
repeated_rows earlier (i ∷ is) = row i.place FaultCode.Twice (list_any (bytes_eq i.text) earlier) ∷ repeated_rows (i.text ∷ earlier) is

-- the names that a type of this form has before all members: `duration` in an action or scenario
abbrev pub names_given : Form → List (List ℕ)
names_given form = cond (is_behaviour form) (codes "duration" ∷ []) []

-- The `do` of a scenario

-- a `do` outside a scenario or under a conditional subtype, and each that isn't the first
abbrev pub do_rows : Form → Bool → List Do → List FaultRow
do_rows form is_later [] = []
do_rows form is_later (d ∷ ds) =
    row d.place FaultCode.WrongKind (not (is_scenario form) || nat_lt 0 (length d.under))
    ∷ row d.place FaultCode.TwoDo is_later
    ∷ do_rows form true ds

-- Initial values

-- the most elements of a list
abbrev pub most_elements : ℕ
most_elements = 64

-- a list constructor that isn't too long
abbrev pub is_list_of : Option ExprTree → Bool
is_list_of (Some (ExprTree.Listed place items)) = not (nat_lt most_elements (length (items_of items)))
is_list_of _ = false

-- the place of the first name, or else the one given
abbrev pub first_name_place : List Ident → Place → Place
first_name_place [] place = place
first_name_place (i ∷ is) place = i.place

-- an initial value for an object, and a list without a list constructor
abbrev pub initial_rows : List TypeHead → MemberTree → List FaultRow
initial_rows heads (MemberTree.Field f) =
    row (first_name_place f.names f.of.place) FaultCode.WrongKind (is_some f.initial && option_map_or (λ t. is_object (form heads t)) (named heads None f.of.text) false)
    ∷ row f.of.place FaultCode.BadArgument (is_some f.list && not (is_list_of f.initial))
    ∷ []
initial_rows heads _ = []

-- Conditions

-- a value that isn't one of what the field holds, and a member that its enum hasn't
abbrev pub held_rows : List TypeHead → ℕ → Form → ConditionValue → List FaultRow
held_rows heads t Form.Truth (ConditionValue.Name name) = row name.place FaultCode.WrongKind true ∷ []
held_rows heads t Form.Truth (ConditionValue.EnumName of member) = row of.place FaultCode.WrongKind true ∷ []
held_rows heads t (Form.Enum members) (ConditionValue.Truth place value) = row place FaultCode.WrongKind true ∷ []
held_rows heads t (Form.Enum members) (ConditionValue.Name name) = row name.place FaultCode.Unknown (is_none (number_of members name.text)) ∷ []
held_rows heads t (Form.Enum members) (ConditionValue.EnumName of member) =
    row of.place FaultCode.WrongKind (not (option_map_or (nat_eq t) (named heads None of.text) false))
    ∷ row member.place FaultCode.Unknown (is_none (number_of members member.text))
    ∷ []
held_rows heads t _ _ = []

-- a condition looks at an enum or a truth value
abbrev pub can_decide : Form → Bool
can_decide Form.Truth = true
can_decide form = is_enum form

-- the field of its base that the condition of a conditional subtype looks at
abbrev pub condition_field : Types → ℕ → Option Field
condition_field ts t = option_and_then (λ (c : HeirCondition). option_and_then (λ b. field ts b c.field.text) (base ts.table.heads t)) (heir_condition ts.bodies t)

-- the conditional subtypes on which one depends: those that the field of its condition is under in its base, and its bases
abbrev pub depends_on : Types → ℕ → List ℕ
depends_on ts t = option_map_or (λ (f : Field). f.under) (condition_field ts t) [] ++ filter (is_conditional ts.bodies) (bases ts.table.heads t)

-- a condition on a field of type t
abbrev pub decided_rows : Types → HeirCondition → Field → ℕ → List FaultRow
decided_rows ts c f t =
    let form_of_t = form ts.table.heads t in
    row c.field.place FaultCode.WrongKind (not (can_decide form_of_t) || is_some f.tree.list) ∷ held_rows ts.table.heads t form_of_t c.value

-- the field of a condition, which its base has
abbrev pub field_rows : Types → HeirCondition → Option Field → List FaultRow
field_rows ts c None = row c.field.place FaultCode.Unknown true ∷ []
field_rows ts c (Some f) = option_map_or (decided_rows ts c f) (field_type ts f) []

-- the condition of a conditional subtype, which doesn't depend on itself
abbrev pub condition_rows : Types → ℕ → List FaultRow
condition_rows ts t =
    option_map_or (λ (c : HeirCondition).
    row c.field.place FaultCode.Cycle (returns (length ts.table.heads) (depends_on ts) t) ∷ field_rows ts c (condition_field ts t)) (heir_condition ts.bodies t) []

-- the faults of the members of a type
abbrev pub type_rows : Types → ℕ → List FaultRow
type_rows ts t =
    let form_of_t = form ts.table.heads t in
    repeated_rows (names_given form_of_t) (names_among (members ts t))
    ++ do_rows form_of_t false (dos ts t)
    ++ flat_map (λ (m : Member). initial_rows ts.table.heads m.written.member) (members ts t)
    ++ condition_rows ts t

-- the faults of all members
abbrev pub member_fault_rows : Types → List FaultRow
member_fault_rows ts = flat_map (type_rows ts) (all_types ts.table.heads)
