-- The own constraints of an object, text by text, at their homes.
use Rattle.std.specs.Prelude.{◌≡◌, ℕ, ◌+◌, Bool, true, List, [], ◌∷◌, ◌++◌, Option, None, flat_map, is_some, map, option_map, option_to_list, reverse}
use Rattle.osc_base.specs.declared.fault.Place.{Place}
use Rattle.osc_base.specs.declared.path.Path.{Path}
use Rattle.osc_base.specs.declared.mark.Strength.{Strength}
use Rattle.osc_base.specs.Paths.{then_name}
use Rattle.dsl_tree.specs.declared.parts.Ident.{Ident}
use Rattle.dsl_tree.specs.PhaseTree.{RuleTree}
use Rattle.dsl_tree.specs.declared.compounds.HeirCondition.{HeirCondition}
use Rattle.dsl_tree.specs.ExprTree.{ExprTree, items_of}
use Rattle.dsl_tree.specs.FileTree.{FieldTree, MemberTree}
use Rattle.expr_nodes.specs.type_heads.Table.{Table, bases}
use Rattle.expr_nodes.specs.type_heads.Types.{Types, Member, Field}
use Rattle.expr_nodes.specs.type_heads.Members.{declared_type, field, field_type, fields_declared, heir_condition, list_length}
use Rattle.expr_nodes.specs.Scope.{It, Scope}
use Rattle.expr_nodes.specs.Typing.{first}
use Rattle.program_texts.specs.composition.declared.guard.Guard.{Guard}
use Rattle.program_texts.specs.composition.Calls.{scope_at}
use Rattle.program_texts.specs.composition.Givens.{element, guards_under, it_of, value_tree}
use Rattle.program_texts.specs.composition.Scenes.{Binding, Occurrence}
use Rattle.text_constraints.specs.Kept.{Holder, equal_kept, rule_kept}
use Rattle.text_constraints.specs.Sites.{Site}

-- ---- conditions

-- a condition on a field
abbrev pub condition_kept : Table → Site → Holder → Place → HeirCondition → Field → Occurrence
condition_kept table s h place c looked_at = equal_kept table s h place Strength.Hard (ExprTree.Dot (ExprTree.It place) c.field) (value_tree looked_at.tree.of c.value)

-- a condition that the objects of type t meet
abbrev pub heir_kept : Types → ℕ → Site → Holder → Place → HeirCondition → List Occurrence
heir_kept ts t s h place c = map (condition_kept ts.table s h place c) (option_to_list (field ts t c.field.text))

-- the condition of one of the types that it inherits from, or of itself
abbrev pub base_kept : Types → ℕ → Site → Holder → Place → ℕ → List Occurrence
base_kept ts t s h place b = flat_map (heir_kept ts t s h place) (option_to_list (heir_condition ts.bodies b))

-- those that its objects meet, farthest first
abbrev pub conditions_kept : Types → Site → Holder → Place → ℕ → List Occurrence
conditions_kept ts s h place t = flat_map (base_kept ts t s h place) (reverse (t ∷ bases ts.table.heads t))

-- ---- initial values

-- an initial value
abbrev pub initial_kept : Table → Site → Holder → ExprTree → ExprTree → Occurrence
initial_kept table s h left value = equal_kept table s h (first value) Strength.Default left value

-- the elements of a list, the first of which is element n
abbrev pub elements_kept : Table → Site → Holder → ℕ → List ExprTree → List Occurrence
elements_kept table s h n [] = []
elements_kept table s h n (value ∷ values) = initial_kept table s h (element (first value) n) value ∷ elements_kept table s h (n + 1) values

-- the initial value of a field, or of each element of a list
abbrev pub initials_kept : Table → Site → Holder → Bool → ExprTree → List Occurrence
initials_kept table s h true (ExprTree.Listed place items) = elements_kept table s h 0 (items_of items)
initials_kept table s h is_list value = initial_kept table s h (ExprTree.It (first value)) value ∷ []

-- ---- fields and members

-- what one name of a field of a type gives
abbrev pub texts_kept : Types → Site → Holder → Option ℕ → FieldTree → List Occurrence
texts_kept ts s h of f =
    flat_map (conditions_kept ts s h f.of.place) (option_to_list of)
    ++ map (rule_kept ts.table s h) f.rules
    ++ flat_map (initials_kept ts.table s h (is_some f.list)) (option_to_list f.initial)

-- where the texts of a field stand
abbrev pub field_site : Types → List Binding → Path → Field → Site
field_site ts bindings object f = record { object = object; it = then_name object f.name.text; scope = scope_at ts f.holder (it_of ts f) []; bindings = bindings }

-- what an object holds under some conditions
abbrev pub held_under : Types → Path → ℕ → List ℕ → Holder
held_under ts object t under = record { holder = object; under = guards_under ts object t under }

-- a name of a field
abbrev pub field_kept : Types → List Binding → Path → ℕ → Field → List Occurrence
field_kept ts bindings object t f = texts_kept ts (field_site ts bindings object f) (held_under ts object t f.under) (field_type ts f) f.tree

-- where a rule of an object stands
abbrev pub rule_site : Types → List Binding → Path → ℕ → Site
rule_site ts bindings object holder = record { object = object; it = object; scope = scope_at ts holder None []; bindings = bindings }

-- a member
abbrev pub member_kept : Types → List Binding → Path → ℕ → Member → MemberTree → List Occurrence
member_kept ts bindings object t m (MemberTree.Field f) = flat_map (field_kept ts bindings object t) (fields_declared m (MemberTree.Field f))
member_kept ts bindings object t m (MemberTree.Rule r) = rule_kept ts.table (rule_site ts bindings object m.holder) (held_under ts object t m.under) r ∷ []
member_kept ts bindings object t m (MemberTree.Do place phase) = []

-- a member as it is listed
abbrev pub listed_kept : Types → List Binding → Path → ℕ → Member → List Occurrence
listed_kept ts bindings object t m = member_kept ts bindings object t m m.written.member

-- ---- scopes

-- a scope in which `it` is nothing
abbrev pub without_it : Scope → Scope
without_it s = record s { it = None }

-- the scope is that of the text of a type, but for `it`
unfoldable pub IsTextScope : Types → ℕ → Scope → Type 0
IsTextScope ts holder s = without_it s ≡ scope_at ts holder None []

-- what `it` is in the texts of a field
abbrev pub it_given : Types → FieldTree → Option It
it_given ts f = option_map (λ t. It.Of t (list_length f)) (declared_type ts f)

-- `it` is a field of that type
abbrev pub HasIt : Option ℕ → FieldTree → Site → Type 0
HasIt of f s = s.scope.it ≡ option_map (λ t. It.Of t (list_length f)) of

-- one name of a field, by the scope of its texts and the conditions of its member
abbrev pub name_kept : Types → List Binding → Path → Scope → List Guard → Ident → FieldTree → List Occurrence
name_kept ts bindings object sc under name f =
    texts_kept ts (record { object = object; it = then_name object name.text; scope = sc; bindings = bindings }) (record { holder = object; under = under }) (declared_type ts f) f

-- a rule of an object, by the scope of its text and the conditions of its member
abbrev pub own_rule_kept : Table → List Binding → Path → Scope → List Guard → RuleTree → Occurrence
own_rule_kept table bindings object sc under r = rule_kept table (record { object = object; it = object; scope = sc; bindings = bindings }) (record { holder = object; under = under }) r
