-- The table of types: all that expressions look up. A type's number is its place in the table: the five basic types come first, then the
-- declared types in load order.
use Rattle.std.specs.Prelude.{ℕ, zero, suc, ◌+◌, ◌&&◌, ◌||◌, Bool, true, false, List, [], ◌∷◌, Option, Some, None, length, slice_index_or, nat_eq, bytes_eq, find, option_map, option_and_then, filter}
use Rattle.std.specs.Option.{option_map_or}
use Rattle.std.specs.List.{list_any}
use Rattle.units_si.specs.osc_base.Number.{Number}
use Rattle.name_scope.specs.dsl_tree.declared.compounds.CompoundKind.{CompoundKind}
use Rattle.units_si.specs.declared.units.Exponents.{Exponents}
use Rattle.name_scope.specs.Declaring.{same_owner, first_place}
use Rattle.type_heads.specs.Form.{Form, EnumMember}

-- The head of a type: its name, the actor that owns it, what it is, and the type that it inherits from. Only a behaviour has an owner: that
-- of `vehicle.drive` is `vehicle`, and its name `drive`.
pub record TypeHead : Type 0 where
  pub name : List ℕ
  pub owner : Option (List ℕ)
  pub form : Form
  pub base : Option ℕ

-- a field: its name, its type, and the number of its elements if it is a list
pub record TableField : Type 0 where
  pub name : List ℕ
  pub of : ℕ
  pub length : Option ℕ

-- a unit: a number in it is worth `number * factor + offset` in base units
pub record TableUnit : Type 0 where
  pub name : List ℕ
  pub exponents : Option Exponents
  pub factor : Number
  pub offset : Number

-- the heads of all types, the fields of each, the units, and the texts that a string may hold, in byte order
pub record Table : Type 0 where
  pub heads : List TypeHead
  pub fields : List (List TableField)
  pub units : List TableUnit
  pub texts : List (List ℕ)

-- Types

-- the head of `int`, which stands for a number that no type has
abbrev pub int_head : TypeHead
int_head = record { name = []; owner = None; form = Form.Int; base = None }

-- the head of the type of that number
abbrev pub head : List TypeHead → ℕ → TypeHead
head heads t = slice_index_or heads t int_head

-- what a type is
abbrev pub form : List TypeHead → ℕ → Form
form heads t = (head heads t).form

-- the type that it inherits from
abbrev pub base : List TypeHead → ℕ → Option ℕ
base heads t = (head heads t).base

-- The type of that name. Without an owner it is a type, or a behaviour that nobody owns. With one it is a behaviour of that owner.
abbrev pub named : List TypeHead → Option (List ℕ) → List ℕ → Option ℕ
named heads owner name = first_place (λ h. same_owner h.owner owner && bytes_eq h.name name) 0 heads

-- the actor that owns a behaviour
abbrev pub owner : List TypeHead → ℕ → Option ℕ
owner heads t = option_and_then (named heads None) (head heads t).owner

-- a type and those that it inherits from, nearest first. Without cycles there are at most as many steps as types.
abbrev pub line_within : ℕ → List TypeHead → Option ℕ → List ℕ
line_within zero heads t = []
line_within (suc steps) heads None = []
line_within (suc steps) heads (Some t) = t ∷ line_within steps heads (base heads t)

-- the types that it inherits from, nearest first
abbrev pub bases : List TypeHead → ℕ → List ℕ
bases heads t = line_within (length heads) heads (base heads t)

-- t is b or inherits from it
abbrev pub is_kind_of : List TypeHead → ℕ → ℕ → Bool
is_kind_of heads b t = list_any (nat_eq b) (t ∷ bases heads t)

-- numbers from n on, one for each item
abbrev pub numbers_from : {X : Type 0} → ℕ → List X → List ℕ
numbers_from n [] = []
numbers_from n (x ∷ xs) = n ∷ numbers_from (n + 1) xs

-- the numbers of all types
abbrev pub all_types : List TypeHead → List ℕ
all_types heads = numbers_from 0 heads

-- the same kind of type with members
abbrev pub same_compound : CompoundKind → CompoundKind → Bool
same_compound CompoundKind.Struct CompoundKind.Struct = true
same_compound CompoundKind.Actor CompoundKind.Actor = true
same_compound CompoundKind.Action CompoundKind.Action = true
same_compound CompoundKind.Scenario CompoundKind.Scenario = true
same_compound _ _ = false

-- a type with members of that kind
abbrev pub is_compound : CompoundKind → Form → Bool
is_compound kind (Form.Compound k) = same_compound kind k
is_compound kind _ = false

-- a struct
abbrev pub is_struct : Form → Bool
is_struct form = is_compound CompoundKind.Struct form

-- an actor
abbrev pub is_actor : Form → Bool
is_actor form = is_compound CompoundKind.Actor form

-- a scenario
abbrev pub is_scenario : Form → Bool
is_scenario form = is_compound CompoundKind.Scenario form

-- an action or a scenario
abbrev pub is_behaviour : Form → Bool
is_behaviour form = is_compound CompoundKind.Action form || is_scenario form

-- what a field of struct or actor type holds is an object
abbrev pub is_object : Form → Bool
is_object form = is_struct form || is_actor form

-- a type with members
abbrev pub has_members : Form → Bool
has_members form = is_object form || is_behaviour form

-- Fields and units

-- the field of that name
abbrev pub field_in : List TableField → List ℕ → Option TableField
field_in fields name = find (λ f. bytes_eq f.name name) fields

-- the field of that name of a type
abbrev pub field_of : Table → ℕ → List ℕ → Option TableField
field_of table t name = field_in (slice_index_or table.fields t []) name

-- the unit of that name
abbrev pub unit : Table → List ℕ → Option TableUnit
unit table name = find (λ u. bytes_eq u.name name) table.units

-- Enums

-- the members of an enum
abbrev pub enum_members : Form → List EnumMember
enum_members (Form.Enum members) = members
enum_members _ = []

-- the number of the member of that name
abbrev pub number_of : List EnumMember → List ℕ → Option ℕ
number_of members name = option_map (λ m. m.number) (find (λ m. bytes_eq m.name name) members)

-- the number of the member of that name of type t
abbrev pub enum_number : List TypeHead → ℕ → List ℕ → Option ℕ
enum_number heads t name = number_of (enum_members (form heads t)) name

-- the enums that have a member of that name
abbrev pub enums_with : List TypeHead → List ℕ → List ℕ
enums_with heads name = filter (λ t. option_map_or (λ n. true) (enum_number heads t name) false) (all_types heads)

-- an enum
abbrev pub is_enum : Form → Bool
is_enum (Form.Enum members) = true
is_enum _ = false
