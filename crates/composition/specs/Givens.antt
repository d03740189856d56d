-- The constraints that a text gives: of rules, initial values, conditions, arguments and stated durations. Their paths lead from the named scenario,
-- and aren't homes yet.
use Rattle.std.specs.Prelude.{ℕ, ◌+◌, Bool, true, false, cond, List, [], ◌∷◌, ◌++◌, Option, Some, None, map, reverse, flat_map, filter_map, codes, option_map, option_and_then, option_to_list}
use Rattle.std.specs.Option.{option_or, option_map_or}
use Rattle.expr_nodes.specs.osc_base.declared.fault.Place.{Place}
use Rattle.expr_nodes.specs.osc_base.declared.path.Path.{Path}
use Rattle.expr_nodes.specs.osc_base.declared.path.Step.{Step}
use Rattle.expr_nodes.specs.osc_base.declared.path.Step.TheVariants.{Name}
use Rattle.expr_nodes.specs.osc_base.declared.mark.Strength.{Strength}
use Rattle.expr_nodes.specs.osc_base.Paths.{path_of, same_step, then_name}
use Rattle.cond_inherit.specs.dsl_tree.declared.parts.Ident.{Ident}
use Rattle.cond_inherit.specs.dsl_tree.declared.expr.RelationSign.{RelationSign}
use Rattle.cond_inherit.specs.dsl_tree.declared.rules.KeepKind.{KeepKind}
use Rattle.cond_inherit.specs.dsl_tree.declared.compounds.ConditionValue.{ConditionValue}
use Rattle.cond_inherit.specs.dsl_tree.declared.compounds.HeirCondition.{HeirCondition}
use Rattle.cond_inherit.specs.dsl_tree.ExprTree.{ExprTree, items_of}
use Rattle.cond_inherit.specs.dsl_tree.PhaseTree.{RuleTree}
use Rattle.cond_inherit.specs.dsl_tree.FileTree.{MemberTree}
use Rattle.cond_inherit.specs.type_heads.Table.{bases}
use Rattle.cond_inherit.specs.type_heads.Types.{Types, Member, Field}
use Rattle.cond_inherit.specs.type_heads.Members.{heir_condition, members, field, field_type, fields_declared, list_length}
use Rattle.cond_inherit.specs.type_heads.Conditions.{Condition}
use Rattle.cond_inherit.specs.Conditions.{conditions}
use Rattle.expr_nodes.specs.declared.compare.Compare.{Compare}
use Rattle.expr_nodes.specs.Typed.{Typed, Read, Span, Relation, Within, moved}
use Rattle.expr_nodes.specs.Scope.{It, Scope}
use Rattle.expr_nodes.specs.Operators.{truth_at}
use Rattle.expr_nodes.specs.Typing.{typed, first, is_path}
use Rattle.composition.specs.declared.guard.Guard.{Guard}
use Rattle.composition.specs.Calls.{scope_at}
use Rattle.composition.specs.Tokens.{tokens, value_tokens}

-- ---- where a text stands

-- the object in whose members the text stands, what `it` is, and the scope of its names
pub record Here : Type 0 where
  pub object : Path
  pub it : Path
  pub scope : Scope

-- a path as the text has it, from the named scenario on
abbrev pub steps_from : Here → List Step → List Step
steps_from here [] = here.object.steps
steps_from here (first ∷ later) = cond (same_step first (Name (codes "it"))) (here.it.steps ++ later) (here.object.steps ++ first ∷ later)

-- a path of the text, from the named scenario on
abbrev pub from_root : Here → Path → Path
from_root here path = path_of (steps_from here path.steps)

-- the typed form of an expression, with its paths from the named scenario on
abbrev pub typed_here : Types → Here → ExprTree → Option Typed
typed_here ts here e = option_map (moved (from_root here)) (typed ts.table here.scope e)

-- ---- constraints

-- A constraint as a text gives it, and the number of tokens of its source.
pub record Given : Type 0 where
  pub place : Place
  pub holder : Path
  pub under : List Guard
  pub strength : Strength
  pub target : Option Path
  pub typed : Option Typed
  pub tokens : ℕ

-- the conditions on the object at a path of type t for members that are under conditional subtypes
abbrev pub guards_under : Types → Path → ℕ → List ℕ → List Guard
guards_under ts object t under = map (λ (c : Condition). Guard.Value (then_name object c.field) c.value) (conditions ts t under)

-- ---- targets

-- the path of what is read, if the expression is one read
abbrev pub read_at : Typed → Option Path
read_at (Read i path per) = Some path
read_at _ = None

-- the field or duration to which a path leads
abbrev pub target_at : Types → Here → ExprTree → Option Path
target_at ts here e = cond (is_path e) (option_and_then read_at (typed_here ts here e)) None

-- what stands on the left of a relation
abbrev pub left_target : Types → Here → ExprTree → Option Path
left_target ts here (ExprTree.Relation place sign left right) = target_at ts here left
left_target ts here _ = None

-- a default without a relation is about the field that is the whole of it
abbrev pub keep_target : Types → Here → Strength → ExprTree → Option Path
keep_target ts here Strength.Hard e = left_target ts here e
keep_target ts here Strength.Default e = option_or (left_target ts here e) (target_at ts here e)
keep_target ts here Strength.Remove e = target_at ts here e

-- ---- rules

-- `keep(e)` is hard
abbrev pub strength_of : KeepKind → Strength
strength_of KeepKind.Plain = Strength.Hard
strength_of KeepKind.Hard = Strength.Hard
strength_of KeepKind.Default = Strength.Default

-- a constraint with its target and its typed expression
abbrev pub given_keep : Types → Here → Path → List Guard → Place → Strength → ExprTree → ℕ → Given
given_keep ts here holder under place strength e count = record {
  place = place;
  holder = holder;
  under = under;
  strength = strength;
  target = keep_target ts here strength e;
  typed = typed_here ts here e;
  tokens = count;
}

-- what a rule gives; a `remove_default` has no expression
abbrev pub given_rule : Types → Here → Path → List Guard → RuleTree → Given
given_rule ts here holder under (RuleTree.Keep place kind e) = given_keep ts here holder under place (strength_of kind) e (tokens e)
given_rule ts here holder under (RuleTree.Remove place path) =
    record (given_keep ts here holder under place Strength.Remove path (tokens path)) { typed = None }

-- ---- fields

-- `left == value`, at the place at which the value begins
abbrev pub equals : ExprTree → ExprTree → ExprTree
equals left value = ExprTree.Relation (first value) RelationSign.Equal left value

-- a field of an object: the object, the field's path, the conditions of its member, and the scope of its texts, in which `it` is the field
pub record FieldHere : Type 0 where
  pub here : Here
  pub under : List Guard

-- what `it` is in the `with:` of a field
abbrev pub it_of : Types → Field → Option It
it_of ts f = option_map (λ t. It.Of t (list_length f.tree)) (field_type ts f)

-- where the texts of a field stand
abbrev pub field_here : Types → Path → ℕ → Field → FieldHere
field_here ts object t f = record {
  here = record { object = object; it = then_name object f.name.text; scope = scope_at ts f.holder (it_of ts f) [] };
  under = guards_under ts object t f.under;
}

-- an initial value is a default
abbrev pub given_initial : Types → FieldHere → ExprTree → ExprTree → Given
given_initial ts f left value = given_keep ts f.here f.here.object f.under (first value) Strength.Default (equals left value) (tokens value)

-- element n of a list
abbrev pub element : Place → ℕ → ExprTree
element place n = ExprTree.Index place (ExprTree.It place) (ExprTree.Number (record { place = place; digits = n; places = 0 }))

-- the defaults of the elements of a list, the first of which is element n
abbrev pub given_elements : Types → FieldHere → ℕ → List ExprTree → List Given
given_elements ts f n [] = []
given_elements ts f n (value ∷ values) = given_initial ts f (element (first value) n) value ∷ given_elements ts f (n + 1) values

-- the initial value of a field, or of each element of a list
abbrev pub given_initials : Types → FieldHere → Bool → ExprTree → List Given
given_initials ts f true (ExprTree.Listed place items) = given_elements ts f 0 (items_of items)
given_initials ts f is_list value = given_initial ts f (ExprTree.It (first value)) value ∷ []

-- the value of a condition on a field as an expression, a member with the name of its enum
abbrev pub value_tree : Ident → ConditionValue → ExprTree
value_tree of (ConditionValue.Truth place value) = ExprTree.Truth place value
value_tree of (ConditionValue.Name name) = ExprTree.EnumName of name
value_tree of (ConditionValue.EnumName enum_name member) = ExprTree.EnumName of member

-- the condition `f == v` of the field's declared type, as a constraint at the type's name
abbrev pub given_condition : Types → FieldHere → Place → HeirCondition → Field → Given
given_condition ts f place c looked_at =
    given_keep ts f.here f.here.object f.under place Strength.Hard
    (equals (ExprTree.Dot (ExprTree.It place) c.field) (value_tree looked_at.tree.of c.value)) (2 + value_tokens c.value)

-- the conditions that a type's objects meet: those of the type and of the types that it inherits from, farthest first
abbrev pub given_conditions : Types → FieldHere → Place → ℕ → List Given
given_conditions ts f place t =
    flat_map (λ (c : HeirCondition). map (given_condition ts f place c) (option_to_list (field ts t c.field.text)))
    (filter_map (heir_condition ts.bodies) (reverse (t ∷ bases ts.table.heads t)))

-- what one name of a field gives: the conditions of its type, its `with:`, and its initial value
abbrev pub given_field : Types → Path → ℕ → Field → List Given
given_field ts object t f =
    let h = field_here ts object t f in
    flat_map (given_conditions ts h f.tree.of.place) (option_to_list (field_type ts f))
    ++ map (given_rule ts h.here object h.under) f.tree.rules
    ++ flat_map (given_initials ts h (option_map_or (λ place. true) f.tree.list false)) (option_to_list f.tree.initial)

-- ---- members

-- what a member gives: each of the names of its field, or its rule
abbrev pub given_member : Types → Path → ℕ → Member → MemberTree → List Given
given_member ts object t m (MemberTree.Field f) = flat_map (given_field ts object t) (fields_declared m (MemberTree.Field f))
given_member ts object t m (MemberTree.Rule r) =
    given_rule ts (record { object = object; it = object; scope = scope_at ts m.holder None [] }) object (guards_under ts object t m.under) r ∷ []
given_member ts object t m (MemberTree.Do place phase) = []

-- the own constraints of the object at a path of type t, member by member
abbrev pub own_givens : Types → Path → ℕ → List Given
own_givens ts object t = flat_map (λ m. given_member ts object t m m.written.member) (members ts t)

-- ---- arguments and durations

-- what is on the left equals a value, or is in a range
abbrev pub required : Place → Typed → Typed → Typed
required place left (Span i low high) = Within (truth_at place) left (Span i low high)
required place left right = Relation (truth_at place) Compare.Equal left right

-- a constraint of a phase on what a path leads to, by a value or range of the text
abbrev pub given_required : Types → Here → Path → Option Typed → ExprTree → Given
given_required ts here phase left value = record {
  place = first value;
  holder = phase;
  under = [];
  strength = Strength.Hard;
  target = option_and_then read_at left;
  typed = option_and_then (λ l. option_map (required (first value) l) (typed_here ts here value)) left;
  tokens = tokens value;
}
