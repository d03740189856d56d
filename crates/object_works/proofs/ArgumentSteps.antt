-- The bindings of arguments, one by one.
use Rattle.std.proofs.Common.{◌≡◌, ◌∙◌, refl, sym, ap, ap₂, ℕ, ◌+◌, Bool, true, false, cond, List, [], ◌∷◌, ◌++◌, Option, Some, None, map, find, flat_map, option_and_then, option_map, option_to_list, append-nil, slice_get}
use Rattle.std.specs.Prelude.{bytes_eq, codes}
use Rattle.std.specs.Option.{option_map_or}
use Rattle.osc_base.specs.declared.path.Path.{Path}
use Rattle.osc_base.specs.Paths.{then_name, path_of}
use Rattle.dsl_tree.specs.declared.parts.Ident.{Ident}
use Rattle.dsl_tree.specs.ExprTree.{ExprTree}
use Rattle.dsl_tree.specs.PhaseTree.{ArgumentTree}
use Rattle.expr_nodes.specs.type_heads.Types.{Field, Types}
use Rattle.expr_nodes.specs.type_heads.Members.{fields}
use Rattle.scene_expansion.specs.composition.Calls.{Assigned, Callee, assigned, without_labels}
use Rattle.scene_expansion.specs.composition.Expansion.{Calling, actor_binding, argument_binding, binding, here_in, object_at, of_arguments}
use Rattle.scene_expansion.specs.composition.Givens.{Here, from_root, steps_from}
use Rattle.scene_expansion.specs.composition.Homes.{home}
use Rattle.scene_expansion.specs.composition.Scenes.{Binding}
use Rattle.expr_nodes.specs.Names.{is_duration}
use Rattle.expr_nodes.specs.Scope.{It, Scope}
use Rattle.expr_nodes.specs.Typed as Nodes
use Rattle.expr_nodes.specs.Typed.{Typed, moved}
use Rattle.expr_nodes.specs.Typing.{typed}
use Rattle.osc_base.specs.declared.path.Step.{Step}
use Rattle.scene_expansion.specs.scene_texts.Moving.{path_under, steps_under}
use Rattle.object_works.specs.Arguments.{arguments_bound, actor_bound, assigned_field, binding_at, bindings_to, field_given}

steps_are : (here : Here) (steps : List Step) → steps_from here steps ≡ steps_under here.object here.it steps
steps_are here [] = refl
steps_are here (first ∷ later) = refl

-- what a text's path leads to depends on the object and on `it` alone
from_root_is : (here : Here) (p : Path) → from_root here p ≡ path_under here.object here.it p
from_root_is here p = ap path_of (steps_are here p.steps)

module _ (call : Calling) (name : List ℕ) (scope : Scope) where
  abbrev here : Here
  here = record { object = call.object; it = call.path; scope = scope }

  abbrev made : Option Path → List Binding
  made o = map (λ (object : Path). record { at = then_name call.path name; home = home call.bindings object }) (option_to_list o)

  led : (t : Typed) → made (object_at (moved (from_root here) t)) ≡ map (binding_at call.bindings call name) (option_to_list (object_at t))
  led (Nodes.Constant i number) = refl
  led (Nodes.Read i path per) = refl
  led (Nodes.Whole i path) = ap (λ (p : Path). record { at = then_name call.path name; home = home call.bindings p } ∷ []) (from_root_is here path)
  led (Nodes.Listed i is_field items) = refl
  led (Nodes.Span i low high) = refl
  led (Nodes.Minus i part) = refl
  led (Nodes.Not i part) = refl
  led (Nodes.Sum i left right) = refl
  led (Nodes.Times i left right) = refl
  led (Nodes.And i left right) = refl
  led (Nodes.Or i left right) = refl
  led (Nodes.Implies i left right) = refl
  led (Nodes.Relation i sign left right) = refl
  led (Nodes.Within i left right) = refl

  led_part : (t : Option Typed) → made (option_and_then object_at (option_map (moved (from_root here)) t)) ≡ bindings_to call.bindings call name t
  led_part None = refl
  led_part (Some t) = led t

  -- a name bound in the text of the call
  pub bound_is : (ts : Types) (value : ExprTree) → bindings_to call.bindings call name (typed ts.table scope value) ≡ binding ts call here name value
  bound_is ts value = sym (led_part (typed ts.table scope value))

-- `actor`
pub actor_is : (ts : Types) (call : Calling) (c : Callee) → actor_bound ts.table call c ≡ actor_binding ts call c
actor_is ts call (Callee.Alone name) = refl
actor_is ts call (Callee.Owned actor name) = bound_is call (codes "actor") (without_labels call.holder) ts actor
actor_is ts call (Callee.NoName place) = refl

-- the field to which an argument goes
given_by : (o : Option Field) (other : Assigned) → field_given other ≡ None → field_given (option_map_or Assigned.Given o other) ≡ o
given_by None other h = h
given_by (Some f) other h = refl

field_is : (ts : Types) (of n : ℕ) (name : Option Ident) → field_given (assigned ts of n name) ≡ assigned_field (fields ts of) n name
field_is ts of n None = given_by (slice_get (fields ts of) n) Assigned.Surplus refl
field_is ts of n (Some name) = by (is_duration name.text)
  where
    by : (b : Bool) → field_given (cond b Assigned.Duration (option_map_or Assigned.Given (find (λ (f : Field). bytes_eq f.name.text name.text) (fields ts of)) (Assigned.Unknown name)))
        ≡ cond b None (find (λ (f : Field). bytes_eq f.name.text name.text) (fields ts of))
    by true = refl
    by false = given_by (find (λ (f : Field). bytes_eq f.name.text name.text) (fields ts of)) (Assigned.Unknown name) refl

module _ (ts : Types) (call : Calling) (it : Option It) where
  abbrev at : Here
  at = here_in ts call it

  one_is : (value : ExprTree) (a : Assigned) → flat_map (λ (f : Field). bindings_to call.bindings call f.name.text (typed ts.table at.scope value)) (option_to_list (field_given a)) ≡ argument_binding ts call at value a
  one_is value Assigned.Surplus = refl
  one_is value Assigned.Duration = refl
  one_is value (Assigned.Unknown name) = refl
  one_is value (Assigned.Given f) = append-nil (bindings_to call.bindings call f.name.text (typed ts.table at.scope value)) ∙ bound_is call f.name.text at.scope ts value

  -- the bindings of all arguments
  pub arguments_are : (of n : ℕ) (arguments : List ArgumentTree)
      → arguments_bound ts.table at.scope call.bindings call (fields ts of) n arguments ≡ of_arguments ts of (argument_binding ts call at) n arguments
  arguments_are of n [] = refl
  arguments_are of n (a ∷ others) =
      ap₂ (λ xs ys. xs ++ ys)
      (ap (λ o. flat_map (λ (f : Field). bindings_to call.bindings call f.name.text (typed ts.table at.scope a.value)) (option_to_list o)) (sym (field_is ts of n a.name)) ∙ one_is a.value (assigned ts of n a.name))
      (arguments_are of (n + 1) others)

-- the bindings of the arguments of a call
pub given_is : (ts : Types) (call : Calling) (of : ℕ) (sc : Scope) (homes : List Binding) (fs : List Field) (arguments : List ArgumentTree)
    → sc ≡ (here_in ts call (Some (It.Of of None))).scope → homes ≡ call.bindings → fs ≡ fields ts of
    → arguments_bound ts.table sc homes call fs 0 arguments ≡ of_arguments ts of (argument_binding ts call (here_in ts call (Some (It.Of of None)))) 0 arguments
given_is ts call of sc homes fs arguments one two three =
    (λ i. arguments_bound ts.table (one i) (two i) call (three i) 0 arguments) ∙ arguments_are ts call (Some (It.Of of None)) of 0 arguments
