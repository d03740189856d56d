-- What names mean: fields, labels, durations, members of enums, and what stands after a point.
use Rattle.std.specs.Prelude.{ℕ, zero, suc, ◌+◌, pos, ◌&&◌, Bool, true, false, cond, List, [], ◌∷◌, Option, Some, None, bytes_eq, codes, find, is_none, option_map, option_and_then}
use Rattle.std.specs.Option.{option_map_or}
use Rattle.type_model.specs.osc_base.declared.fault.Place.{Place}
use Rattle.type_model.specs.osc_base.declared.fault.FaultCode.{FaultCode}
use Rattle.type_model.specs.osc_base.declared.path.Path.{Path}
use Rattle.type_model.specs.osc_base.Number.{whole}
use Rattle.type_model.specs.osc_base.FaultRows.{FaultRow, row}
use Rattle.type_model.specs.osc_base.Paths.{root, then_name, then_index, then_duration}
use Rattle.type_model.specs.dsl_tree.declared.parts.Ident.{Ident}
use Rattle.type_model.specs.type_heads.Form.{Form}
use Rattle.type_model.specs.type_heads.Table.{Table, TableField, form, named, owner, field_of, is_behaviour, has_members, is_enum, enum_number, enums_with}
use Rattle.expr_nodes.specs.Kinds.{ValueKind, Made, kind_of, seconds}
use Rattle.expr_nodes.specs.Typed.{Typed, Constant, Read, Whole, Listed, TypedRow, Item, End}
use Rattle.expr_nodes.specs.Scope.{It, Label, Scope}
use Rattle.expr_nodes.specs.Sizes.{info_at, unit_size, field_size, duration_size, duration_scale, constant_size}
use Rattle.expr_nodes.specs.Parts.{of_one, unless}

-- What is read

-- what is held is counted over 1000 in a `float` or physical field, and over 1 in others
abbrev pub per_of : Form → ℕ
per_of Form.Float = 1000
per_of (Form.Physical exponents) = 1000
per_of _ = 1

-- a field of one value or object of type t
abbrev pub single : Table → Place → Path → ℕ → Option Typed
single table place path t =
    let f = form table.heads t in
    option_map (λ k. cond (has_members f) (Whole (info_at place k unit_size) path) (Read (info_at place k (field_size (per_of f))) path (per_of f))) (kind_of t f)

-- the elements of a list field from number n on
abbrev pub elements_from : ℕ → ℕ → (Path → Typed) → Path → TypedRow
elements_from n zero element path = End
elements_from n (suc count) element path = Item (element (then_index path n)) (elements_from (n + 1) count element path)

-- a list field with so many elements of type t
abbrev pub list_field : Table → Place → Path → ℕ → ℕ → Option Typed
list_field table place path t count =
    let f = form table.heads t in
    option_map (λ k. Listed (info_at place k unit_size) true (elements_from 0 count (λ p. Read (info_at place k (field_size (per_of f))) p (per_of f)) path)) (kind_of t f)

-- a field of that type at a path: one value or object, or a list
abbrev pub held_at : Table → Place → Path → ℕ → Option ℕ → Option Typed
held_at table place path t None = single table place path t
held_at table place path t (Some count) = list_field table place path t count

-- a duration that is read at a path
abbrev pub duration_at : Place → Path → Typed
duration_at place path = Read (info_at place seconds duration_size) path duration_scale

-- Names

-- what a name means: nothing, one member of several enums, or something, which may have no kind
pub data Meaning : Type 0 where
  Nothing : Meaning
  Several : Meaning
  Something : (typed : Option Typed) → Meaning

-- the typed form of what a name means
abbrev pub typed_meaning : Meaning → Option Typed
typed_meaning (Something typed) = typed
typed_meaning _ = None

-- the name means nothing
abbrev pub is_nothing : Meaning → Bool
is_nothing Nothing = true
is_nothing _ = false

-- several enums have a member of the name
abbrev pub is_several : Meaning → Bool
is_several Several = true
is_several _ = false

-- the name is `duration`
abbrev pub is_duration : List ℕ → Bool
is_duration name = bytes_eq name (codes "duration")

-- a field at a path
abbrev pub field_meant : Table → Place → Path → TableField → Meaning
field_meant table place path f = Something (held_at table place path f.of f.length)

-- a member of enum e
abbrev pub member_at : Place → ℕ → ℕ → Typed
member_at place e number = Constant (info_at place (ValueKind.Member e) (constant_size (whole (pos number)))) (whole (pos number))

-- a bare name of a member: one enum alone has it
abbrev pub member_meant : Table → Ident → List ℕ → Meaning
member_meant table i [] = Nothing
member_meant table i (e ∷ []) = Something (option_map (member_at i.place e) (enum_number table.heads e i.text))
member_meant table i (e ∷ f ∷ others) = Several

-- the label of that name
abbrev pub label_named : Scope → List ℕ → Option Label
label_named sc name = find (λ (l : Label). bytes_eq l.name name) sc.labels

-- a label stands for its whole phase
abbrev pub label_at : Place → Label → Typed
label_at place l = Whole (info_at place (ValueKind.Phase l.made) unit_size) l.path

-- A name is looked up as a field, then as a label, then as `duration` in an action or scenario, then as a member of an enum.
abbrev pub meaning_by_duration : Table → Ident → Bool → Meaning
meaning_by_duration table i true = Something (Some (duration_at i.place (then_duration root)))
meaning_by_duration table i false = member_meant table i (enums_with table.heads i.text)

-- a name that is no field
abbrev pub meaning_by_label : Table → Scope → Ident → Option Label → Meaning
meaning_by_label table sc i (Some l) = Something (Some (label_at i.place l))
meaning_by_label table sc i None = meaning_by_duration table i (is_duration i.text && is_behaviour (form table.heads sc.holder))

-- a name, given the field that it may be
abbrev pub meaning_by_field : Table → Scope → Ident → Option TableField → Meaning
meaning_by_field table sc i (Some f) = field_meant table i.place (then_name root i.text) f
meaning_by_field table sc i None = meaning_by_label table sc i (label_named sc i.text)

-- what a name means in a scope
abbrev pub meaning : Table → Scope → Ident → Meaning
meaning table sc i = meaning_by_field table sc i (field_of table sc.holder i.text)

-- the name is that of a hidden label, and of no field
abbrev pub is_hidden : Table → Scope → List ℕ → Bool
is_hidden table sc name = is_none (field_of table sc.holder name) && option_map_or (λ (l : Label). l.hidden) (label_named sc name) false

-- the faults of a name: it means nothing, several enums have it, or it is a hidden label
abbrev pub name_rows : Table → Scope → Ident → List FaultRow
name_rows table sc i =
    row i.place FaultCode.Unknown (is_nothing (meaning table sc i))
    ∷ row i.place FaultCode.Ambiguous (is_several (meaning table sc i))
    ∷ row i.place FaultCode.ChoiceLabel (is_hidden table sc i.text)
    ∷ []

-- the typed form of a name
abbrev pub name_typed : Table → Scope → Ident → Option Typed
name_typed table sc i = unless (name_rows table sc i) (typed_meaning (meaning table sc i))

-- a name is a label
abbrev pub is_label : Table → Scope → List ℕ → Bool
is_label table sc name = is_none (field_of table sc.holder name) && option_map_or (λ (l : Label). true) (label_named sc name) false

-- `it` and `actor`

-- `it` outside a `with:`
abbrev pub it_rows : Scope → Place → List FaultRow
it_rows sc place = row place FaultCode.Unknown (is_none sc.it) ∷ []

-- what `it` stands for, at its path
abbrev pub it_at : Table → Place → It → Option Typed
it_at table place (It.Of t count) = held_at table place (then_name root (codes "it")) t count
it_at table place It.Unresolved = None

-- the typed form of `it`
abbrev pub it_typed : Table → Scope → Place → Option Typed
it_typed table sc place = option_and_then (it_at table place) sc.it

-- `actor` in the text of a type without an owner
abbrev pub actor_rows : Table → Scope → Place → List FaultRow
actor_rows table sc place = row place FaultCode.Unknown (is_none (owner table.heads sc.holder)) ∷ []

-- the typed form of `actor`: the object that executes an owned action or scenario
abbrev pub actor_typed : Table → Scope → Place → Option Typed
actor_typed table sc place = option_map (λ o. Whole (info_at place (ValueKind.Object o) unit_size) (then_name root (codes "actor"))) (owner table.heads sc.holder)

-- Members of enums with the enum before them

-- the enum of that name
abbrev pub enum_named : Table → Ident → Option ℕ
enum_named table of = option_and_then (λ t. cond (is_enum (form table.heads t)) (Some t) None) (named table.heads None of.text)

-- an enum that isn't declared, and a member that it hasn't
abbrev pub enum_name_rows : Table → Ident → Ident → List FaultRow
enum_name_rows table of member =
    row of.place FaultCode.Unknown (is_none (enum_named table of))
    ∷ row member.place FaultCode.Unknown (option_map_or (λ e. is_none (enum_number table.heads e member.text)) (enum_named table of) false)
    ∷ []

-- the typed form of a member with its enum before it
abbrev pub enum_name_typed : Table → Ident → Ident → Option Typed
enum_name_typed table of member = option_and_then (λ e. option_map (member_at of.place e) (enum_number table.heads e member.text)) (enum_named table of)

-- After a point

-- the duration of what stands at a path, if it has one
abbrev pub duration_if : Place → Path → Bool → Meaning
duration_if place path timed = cond timed (Something (Some (duration_at place (then_duration path)))) Nothing

-- a member of an object of type t, or the object's duration
abbrev pub member_of_object : Table → Place → Path → ℕ → List ℕ → Meaning
member_of_object table place path t name =
    option_map_or (field_meant table place (then_name path name)) (field_of table t name)
    (duration_if place path (is_duration name && is_behaviour (form table.heads t)))

-- a member of what a phase makes
abbrev pub member_made : Table → Place → Path → List ℕ → Made → Meaning
member_made table place path name Made.Nothing = Nothing
member_made table place path name Made.Unknown = Something None
member_made table place path name (Made.Makes t) = member_of_object table place path t name

-- a phase's duration, or a member of what it makes
abbrev pub member_of_phase : Table → Place → Path → Made → List ℕ → Meaning
member_of_phase table place path made name = cond (is_duration name) (duration_if place path true) (member_made table place path name made)

-- a member of a whole object or phase
abbrev pub member_of_whole : Table → Place → Path → ValueKind → List ℕ → Meaning
member_of_whole table place path (ValueKind.Object t) name = member_of_object table place path t name
member_of_whole table place path (ValueKind.Phase made) name = member_of_phase table place path made name
member_of_whole table place path _ name = Nothing

-- what a name means after the point of an expression
abbrev pub after_point : Table → Typed → List ℕ → Meaning
after_point table (Whole i path) name = member_of_whole table i.place path i.kind name
after_point table _ name = Nothing

-- a name after a point that means nothing there
abbrev pub dot_rows : Table → Option Typed → Ident → List FaultRow
dot_rows table head i = row i.place FaultCode.Unknown (of_one head (λ h. is_nothing (after_point table h i.text))) ∷ []

-- the typed form of a name after a point
abbrev pub dot_typed : Table → Option Typed → Ident → Option Typed
dot_typed table head i = option_and_then (λ h. typed_meaning (after_point table h i.text)) head
