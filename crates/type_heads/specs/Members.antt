-- The members of a type: those of the type that it inherits from, its own, those of its conditional subtypes, and those of its extensions.
use Rattle.std.specs.Prelude.{ℕ, zero, suc, ◌&&◌, Bool, true, false, not, List, [], ◌∷◌, ◌++◌, Option, Some, None, map, length, slice_index_or, nat_eq, bytes_eq, is_some, find, flat_map, filter, filter_map, option_map, option_and_then, option_to_list}
use Rattle.std.specs.Option.{option_map_or}
use Rattle.std.specs.List.{list_any}
use Rattle.units_si.specs.osc_base.declared.fault.Place.{Place}
use Rattle.name_scope.specs.dsl_tree.declared.compounds.HeirCondition.{HeirCondition}
use Rattle.name_scope.specs.dsl_tree.declared.compounds.Heir.{Heir}
use Rattle.name_scope.specs.dsl_tree.ExprTree.{ExprTree, items_of}
use Rattle.name_scope.specs.dsl_tree.FileTree.{FieldTree, MemberTree}
use Rattle.type_heads.specs.Table.{TypeHead, TableField, base, bases, named, all_types}
use Rattle.type_heads.specs.Types.{Written, TypeBody, Member, Field, Do, Types}

-- a type is one of these
abbrev pub has : ℕ → List ℕ → Bool
has t ts = list_any (nat_eq t) ts

-- a place of no file, for what no file declares
abbrev pub nowhere : Place
nowhere = record { file = 0; line = 0; column = 0; token = 0 }

-- a body without members
abbrev pub no_body : TypeBody
no_body = record { place = nowhere; heir = None; own = []; more = [] }

-- the body of the type of that number
abbrev pub body : List TypeBody → ℕ → TypeBody
body bodies t = slice_index_or bodies t no_body

-- the condition under which a conditional subtype inherits, as written
abbrev pub heir_condition : List TypeBody → ℕ → Option HeirCondition
heir_condition bodies t = option_and_then (λ (h : Heir). h.condition) (body bodies t).heir

-- a conditional subtype
abbrev pub is_conditional : List TypeBody → ℕ → Bool
is_conditional bodies t = is_some (heir_condition bodies t)

-- the conditional subtypes of a type, in load order
abbrev pub subtypes : List TypeHead → List TypeBody → ℕ → List ℕ
subtypes heads bodies t = filter (λ c. is_conditional bodies c && option_map_or (nat_eq t) (base heads c) false) (all_types heads)

-- a member on its way down: the type that holds it, and the conditional subtypes through which it comes, outermost first
pub record Line : Type 0 where
  pub written : Written
  pub holder : ℕ
  pub through : List ℕ

-- a member that is written in the text of type t
abbrev pub line_of : ℕ → Written → Line
line_of t w = record { written = w; holder = t; through = [] }

-- a member that comes through conditional subtype c too
abbrev pub through : ℕ → Line → Line
through c l = record l { through = c ∷ l.through }

-- Down from a type: its own members, then those down from each of its conditional subtypes, then those of its extensions. Without cycles
-- there are at most as many steps as types.
abbrev pub down_within : ℕ → List TypeHead → List TypeBody → ℕ → List Line
down_within zero heads bodies t = []
down_within (suc steps) heads bodies t =
    map (line_of t) (body bodies t).own
    ++ flat_map (λ c. map (through c) (down_within steps heads bodies c)) (subtypes heads bodies t)
    ++ map (line_of t) (body bodies t).more

-- what comes down from a type
abbrev pub down : List TypeHead → List TypeBody → ℕ → List Line
down heads bodies t = down_within (length heads) heads bodies t

-- all members of a type: those of its base but for what comes down from the type itself, and then that
abbrev pub lines_within : ℕ → List TypeHead → List TypeBody → ℕ → List Line
lines_within zero heads bodies t = []
lines_within (suc steps) heads bodies t =
    flat_map (λ b. filter (λ l. not (has t l.through)) (lines_within steps heads bodies b)) (option_to_list (base heads t))
    ++ down heads bodies t

-- a member is under the conditional subtypes through which it comes, but for the type itself and those that it inherits from
abbrev pub member_of : List ℕ → Line → Member
member_of line l = record { written = l.written; holder = l.holder; under = filter (λ c. not (has c line)) l.through }

-- the members of a type, in order
abbrev pub members_of : List TypeHead → List TypeBody → ℕ → List Member
members_of heads bodies t = map (member_of (t ∷ bases heads t)) (lines_within (length heads) heads bodies t)

-- Fields

-- the fields that a member declares
abbrev pub fields_declared : Member → MemberTree → List Field
fields_declared m (MemberTree.Field f) = map (λ i. record { name = i; tree = f; holder = m.holder; under = m.under }) f.names
fields_declared m (MemberTree.Rule r) = []
fields_declared m (MemberTree.Do place phase) = []

-- the fields that members declare, name by name
abbrev pub fields_among : List Member → List Field
fields_among members = flat_map (λ m. fields_declared m m.written.member) members

-- the number of elements of a list constructor
abbrev pub items_in : Option ExprTree → ℕ
items_in (Some (ExprTree.Listed place items)) = length (items_of items)
items_in _ = 0

-- the number of elements, if the field is a list
abbrev pub list_length : FieldTree → Option ℕ
list_length f = option_map (λ place. items_in f.initial) f.list

-- a field as expressions see it; none if its type isn't declared, which is a fault
abbrev pub table_field : List TypeHead → Field → Option TableField
table_field heads f = option_map (λ t. record { name = f.name.text; of = t; length = list_length f.tree }) (named heads None f.tree.of.text)

-- the fields among members, as expressions see them
abbrev pub table_fields : List TypeHead → List Member → List TableField
table_fields heads members = filter_map (table_field heads) (fields_among members)

-- The members of a type of the program

-- the members of type t
abbrev pub members : Types → ℕ → List Member
members ts t = slice_index_or ts.members t []

-- the fields of type t, name by name
abbrev pub fields : Types → ℕ → List Field
fields ts t = fields_among (members ts t)

-- the field of that name
abbrev pub field : Types → ℕ → List ℕ → Option Field
field ts t name = find (λ f. bytes_eq f.name.text name) (fields ts t)

-- the type of a field, or of the elements of a list
abbrev pub declared_type : Types → FieldTree → Option ℕ
declared_type ts f = named ts.table.heads None f.of.text

-- the type of one field
abbrev pub field_type : Types → Field → Option ℕ
field_type ts f = declared_type ts f.tree

-- the `do` that a member is
abbrev pub do_declared : Member → MemberTree → Option Do
do_declared m (MemberTree.Do place phase) = Some (record { holder = m.holder; place = place; phase = phase; under = m.under })
do_declared m (MemberTree.Field f) = None
do_declared m (MemberTree.Rule r) = None

-- each `do` among the members
abbrev pub dos : Types → ℕ → List Do
dos ts t = filter_map (λ m. do_declared m m.written.member) (members ts t)

-- the `do` of a scenario
abbrev pub the_do : Types → ℕ → Option Do
the_do ts t = find (λ d. true) (dos ts t)
