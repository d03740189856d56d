-- The faults of names in headings: `Twice` when a name is declared before, `Unknown` when a name isn't declared.
use Rattle.std.specs.Prelude.{ℕ, ◌&&◌, ◌||◌, Bool, not, List, [], ◌∷◌, ◌++◌, Option, Some, None, flat_map, codes, bytes_eq}
use Rattle.std.specs.List.{list_any}
use Rattle.dsl_tree.specs.osc_base.declared.fault.FaultCode.{FaultCode}
use Rattle.dsl_tree.specs.osc_base.FaultRows.{FaultRow, row}
use Rattle.dsl_tree.specs.declared.parts.Ident.{Ident}
use Rattle.dsl_tree.specs.declared.compounds.ConditionValue.{ConditionValue}
use Rattle.dsl_tree.specs.declared.compounds.HeirCondition.{HeirCondition}
use Rattle.dsl_tree.specs.declared.compounds.Heir.{Heir}
use Rattle.dsl_tree.specs.declared.compounds.Member.{Member}
use Rattle.dsl_tree.specs.declared.file.Declaration.{Declaration}
use Rattle.name_scope.specs.declared.ids.NameKind.{NameKind}
use Rattle.name_scope.specs.FileNumbers.{AddedFile}
use Rattle.name_scope.specs.Declaring.{DeclaredName, declared_name, declares}

-- all declarations in load order
abbrev pub declarations : List AddedFile → List Declaration
declarations files = flat_map (λ f. f.file.decls) files

-- the types that are there without a declaration
abbrev pub basic_types : List (List ℕ)
basic_types = codes "int" ∷ codes "uint" ∷ codes "float" ∷ codes "bool" ∷ codes "string" ∷ []

abbrev pub is_basic : List ℕ → Bool
is_basic name = list_any (bytes_eq name) basic_types

-- types and behaviours without an owner share one space of names
abbrev pub takes : List ℕ → Declaration → Bool
takes name d = declares NameKind.TypeName None name d || declares NameKind.BehaviourName None name d

-- a type or a behaviour without an owner has that name
abbrev pub is_declared : List Declaration → List ℕ → Bool
is_declared ds name = is_basic name || list_any (takes name) ds

-- the owner has a behaviour of that name
abbrev pub is_owned : List Declaration → List ℕ → List ℕ → Bool
is_owned ds owner name = list_any (declares NameKind.BehaviourName (Some owner) name) ds

-- the name is declared before in its space
abbrev pub is_taken : List Declaration → NameKind → Option (List ℕ) → List ℕ → Bool
is_taken earlier NameKind.TypeName owner name = is_declared earlier name
is_taken earlier NameKind.UnitName owner name = list_any (declares NameKind.UnitName None name) earlier
is_taken earlier NameKind.BehaviourName None name = is_declared earlier name
is_taken earlier NameKind.BehaviourName (Some owner) name = is_owned earlier owner name
is_taken earlier NameKind.ModifierName owner name = list_any (declares NameKind.ModifierName owner name) earlier

-- `Twice` at a declared name
abbrev pub twice_rows : List Declaration → Option DeclaredName → List FaultRow
twice_rows earlier None = []
twice_rows earlier (Some d) = row d.place FaultCode.Twice (is_taken earlier d.kind d.owner d.name) ∷ []

-- `Unknown` at a name that is to be a type's or an ownerless behaviour's
abbrev pub unknown_row : List Declaration → Ident → FaultRow
unknown_row all i = row i.place FaultCode.Unknown (not (is_declared all i.text))

-- `Unknown` in a name that may have an owner: at the owner, or at the name after the point of an owner that is declared
abbrev pub unowned_row : List Declaration → Ident → Ident → FaultRow
unowned_row all owner i = row i.place FaultCode.Unknown (is_declared all owner.text && not (is_owned all owner.text i.text))

abbrev pub qualified_rows : List Declaration → Ident → Option Ident → List FaultRow
qualified_rows all name None = unknown_row all name ∷ []
qualified_rows all owner (Some name) = unknown_row all owner ∷ unowned_row all owner name ∷ []

-- `Unknown` at the owner in a declared name
abbrev pub owner_rows : List Declaration → Ident → Option Ident → List FaultRow
owner_rows all name None = []
owner_rows all owner (Some name) = unknown_row all owner ∷ []

-- `Unknown` at the enum of `inherits B(f == e!v)`
abbrev pub value_rows : List Declaration → ConditionValue → List FaultRow
value_rows all (ConditionValue.Truth place value) = []
value_rows all (ConditionValue.Name name) = []
value_rows all (ConditionValue.EnumName of member) = unknown_row all of ∷ []

abbrev pub condition_rows : List Declaration → Option HeirCondition → List FaultRow
condition_rows all None = []
condition_rows all (Some c) = value_rows all c.value

abbrev pub heir_rows : List Declaration → Option Heir → List FaultRow
heir_rows all None = []
heir_rows all (Some h) = qualified_rows all h.base.first h.base.second ++ condition_rows all h.condition

-- `Unknown` at the type of a field or list
abbrev pub member_rows : List Declaration → Member → List FaultRow
member_rows all (Member.Field f) = unknown_row all f.of ∷ []
member_rows all (Member.Rule r) = []
member_rows all (Member.Do place phase) = []

abbrev pub reference_rows : List Declaration → Declaration → List FaultRow
reference_rows all (Declaration.Physical d) = []
reference_rows all (Declaration.Unit d) = unknown_row all d.of ∷ []
reference_rows all (Declaration.Enum d) = []
reference_rows all (Declaration.Compound d) = owner_rows all d.name.first d.name.second ++ heir_rows all d.heir ++ flat_map (member_rows all) d.members
reference_rows all (Declaration.MemberExtension d) = qualified_rows all d.name.first d.name.second ++ flat_map (member_rows all) d.members
reference_rows all (Declaration.EnumExtension d) = qualified_rows all d.name.first d.name.second

-- the rows of declarations, of which some stand before
abbrev pub rows_behind : List Declaration → List Declaration → List Declaration → List FaultRow
rows_behind all earlier [] = []
rows_behind all earlier (d ∷ ds) = twice_rows earlier (declared_name d) ++ reference_rows all d ++ rows_behind all (earlier ++ d ∷ []) ds

-- the faults of all headings
abbrev pub heading_rows : List AddedFile → List FaultRow
heading_rows files = rows_behind (declarations files) [] (declarations files)
