-- The bindings of arguments, by what the arguments lead to.
use Rattle.std.specs.Prelude.{ℕ, ◌+◌, List, [], ◌∷◌, ◌++◌, Option, Some, None, codes, cond, find, flat_map, map, option_and_then, option_to_list, slice_get}
use Rattle.osc_base.specs.declared.path.Path.{Path}
use Rattle.osc_base.specs.Paths.{then_name}
use Rattle.dsl_tree.specs.declared.parts.Ident.{Ident}
use Rattle.dsl_tree.specs.PhaseTree.{ArgumentTree}
use Rattle.expr_nodes.specs.type_heads.Table.{Table}
use Rattle.expr_nodes.specs.type_heads.Types.{Field}
use Rattle.scene_expansion.specs.composition.Calls.{Assigned, Callee, without_labels}
use Rattle.scene_expansion.specs.composition.Expansion.{Calling, object_at}
use Rattle.scene_expansion.specs.composition.Homes.{home}
use Rattle.scene_expansion.specs.composition.Scenes.{Binding}
use Rattle.expr_nodes.specs.Names.{is_duration}
use Rattle.expr_nodes.specs.Scope.{Scope}
use Rattle.expr_nodes.specs.Typed.{Typed}
use Rattle.expr_nodes.specs.Typing.{typed}
use Rattle.program_texts.specs.program_fields.SeenFields.{has_name}
use Rattle.scene_expansion.specs.scene_texts.Moving.{path_under}

-- the field to which an argument goes
abbrev pub field_given : Assigned → Option Field
field_given Assigned.Surplus = None
field_given Assigned.Duration = None
field_given (Assigned.Unknown name) = None
field_given (Assigned.Given f) = Some f

-- a name bound to an object of the call's text, given the homes of the calling object's parameters
abbrev pub binding_at : List Binding → Calling → List ℕ → Path → Binding
binding_at homes call name object = record { at = then_name call.path name; home = home homes (path_under call.object call.path object) }

-- a name bound to what an expression leads to
abbrev pub bindings_to : List Binding → Calling → List ℕ → Option Typed → List Binding
bindings_to homes call name t = map (binding_at homes call name) (option_to_list (option_and_then object_at t))

-- the field of that name; `duration` is none
abbrev pub named_field : List Field → List ℕ → Option Field
named_field fields name = cond (is_duration name) None (find (has_name name) fields)

-- the field to which an argument at place n goes
abbrev pub assigned_field : List Field → ℕ → Option Ident → Option Field
assigned_field fields n None = slice_get fields n
assigned_field fields n (Some name) = named_field fields name.text

-- the binding of an argument
abbrev pub argument_bound : Table → Scope → List Binding → Calling → List Field → ℕ → ArgumentTree → List Binding
argument_bound table sc homes call fields n a = flat_map (λ (f : Field). bindings_to homes call f.name.text (typed table sc a.value)) (option_to_list (assigned_field fields n a.name))

-- the bindings of arguments, the first of which stands at place n
abbrev pub arguments_bound : Table → Scope → List Binding → Calling → List Field → ℕ → List ArgumentTree → List Binding
arguments_bound table sc homes call fields n [] = []
arguments_bound table sc homes call fields n (a ∷ others) = argument_bound table sc homes call fields n a ++ arguments_bound table sc homes call fields (n + 1) others

-- the binding of `actor`
abbrev pub actor_bound : Table → Calling → Callee → List Binding
actor_bound table call (Callee.Alone name) = []
actor_bound table call (Callee.Owned actor name) = bindings_to call.bindings call (codes "actor") (typed table (without_labels call.holder) actor)
actor_bound table call (Callee.NoName place) = []
