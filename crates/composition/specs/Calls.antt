-- The phases of a `do`, what an invocation invokes, and where its arguments go.
use Rattle.std.specs.Prelude.{ℕ, ◌+◌, ◌&&◌, Bool, true, not, cond, List, [], ◌∷◌, ◌++◌, Option, Some, None, nat_eq, slice_get, find, filter_map, option_map, option_and_then, option_to_list, flat_map}
use Rattle.std.specs.Option.{option_map_or}
use Rattle.std.specs.List.{list_all, list_any}
use Rattle.expr_nodes.specs.osc_base.declared.fault.Place.{Place}
use Rattle.expr_nodes.specs.osc_base.declared.path.Path.{Path}
use Rattle.expr_nodes.specs.osc_base.Paths.{root, same_path, then_do, then_member}
use Rattle.cond_inherit.specs.dsl_tree.declared.parts.Ident.{Ident}
use Rattle.cond_inherit.specs.dsl_tree.declared.phases.CompKind.{CompKind}
use Rattle.cond_inherit.specs.dsl_tree.declared.phases.InvokeHead.{InvokeHead}
use Rattle.cond_inherit.specs.dsl_tree.ExprTree.{ExprTree}
use Rattle.cond_inherit.specs.dsl_tree.PhaseTree.{PhaseTree, Comp, Invoke, Wait, PhaseRow, End, Phase}
use Rattle.cond_inherit.specs.type_heads.Table.{TypeHead, head, form, bases, named, is_actor, is_behaviour}
use Rattle.cond_inherit.specs.type_heads.Types.{Types, Field, Do}
use Rattle.cond_inherit.specs.type_heads.Members.{fields, field, the_do}
use Rattle.expr_nodes.specs.Kinds.{Made, object_type}
use Rattle.expr_nodes.specs.Typed.{Typed, kind}
use Rattle.expr_nodes.specs.Scope.{It, Label, Scope}
use Rattle.expr_nodes.specs.Names.{is_duration}
use Rattle.expr_nodes.specs.Typing.{typed}

-- Phases

-- a `one_of` on the way to a phase, and the member that the way takes
pub record Turn : Type 0 where
  pub phase : Path
  pub member : ℕ

-- a phase, its path from the object whose `do` it is in, and the turns on its way, outermost first
pub record PhaseHere : Type 0 where
  pub path : Path
  pub way : List Turn
  pub phase : PhaseTree

-- the turn of a member of a composition, which is one if the composition is a `one_of`
abbrev pub turns : CompKind → Path → ℕ → List Turn
turns CompKind.Serial path n = []
turns CompKind.Parallel path n = []
turns CompKind.OneOf path n = record { phase = path; member = n } ∷ []

-- a phase and all phases in it, each before its members
abbrev mutual
  pub phases_at : Path → List Turn → PhaseTree → List PhaseHere
  phases_at path way (Comp label place kind arguments members) =
      record { path = path; way = way; phase = Comp label place kind arguments members } ∷ phases_among kind path way 0 members
  phases_at path way (Invoke label head names arguments parts) = record { path = path; way = way; phase = Invoke label head names arguments parts } ∷ []
  phases_at path way (Wait label place elapsed) = record { path = path; way = way; phase = Wait label place elapsed } ∷ []

  pub phases_among : CompKind → Path → List Turn → ℕ → PhaseRow → List PhaseHere
  phases_among kind path way n End = []
  phases_among kind path way n (Phase phase others) =
      phases_at (then_member path n) (way ++ turns kind path n) phase ++ phases_among kind path way (n + 1) others

-- the phases of a `do`
abbrev pub phases_in : PhaseTree → List PhaseHere
phases_in phase = phases_at (then_do root) [] phase

-- the label before a phase
abbrev pub label_of : PhaseTree → Option Ident
label_of (Comp label place kind arguments members) = label
label_of (Invoke label head names arguments parts) = label
label_of (Wait label place elapsed) = label

-- Invocations

-- What is written before the brackets of an invocation: a behaviour's name alone, the path to an actor and the name of one of its
-- behaviours, or the word `actor` alone, which names nothing.
pub data Callee : Type 0 where
  Alone : (name : Ident) → Callee
  Owned : (actor : ExprTree) (name : Ident) → Callee
  NoName : (place : Place) → Callee

-- the last name is the behaviour's, and those before it lead to the actor
abbrev pub last_of : ExprTree → Ident → List Ident → Callee
last_of actor name [] = Callee.Owned actor name
last_of actor name (next ∷ later) = last_of (ExprTree.Dot actor name) next later

-- what an invocation calls, by its head and the names after it
abbrev pub callee : InvokeHead → List Ident → Callee
callee (InvokeHead.Name name) [] = Callee.Alone name
callee (InvokeHead.Name name) (next ∷ later) = last_of (ExprTree.Name name) next later
callee (InvokeHead.Actor place) [] = Callee.NoName place
callee (InvokeHead.Actor place) (next ∷ later) = last_of (ExprTree.Actor place) next later

-- the scope of a type's text without its labels, in which the paths to actors are read
abbrev pub without_labels : ℕ → Scope
without_labels t = record { holder = t; it = None; labels = [] }

-- the actor type of the object to which a path leads
abbrev pub actor_type : List TypeHead → Option Typed → Option ℕ
actor_type heads t = option_and_then (λ x. option_and_then (λ a. cond (is_actor (form heads a)) (Some a) None) (object_type (kind x))) t

-- the behaviour of that name that the actor or the nearest of its bases owns
abbrev pub owned_behaviour : List TypeHead → List ℕ → ℕ → Option ℕ
owned_behaviour heads name a = find (λ b. true) (filter_map (λ o. named heads (Some (head heads o).name) name) (a ∷ bases heads a))

-- the action or scenario without an owner that has the name
abbrev pub behaviour_named : List TypeHead → List ℕ → Option ℕ
behaviour_named heads name = option_and_then (λ t. cond (is_behaviour (form heads t)) (Some t) None) (named heads None name)

-- the action or scenario that is called in the text of type t
abbrev pub called : Types → ℕ → Callee → Option ℕ
called ts t (Callee.Alone name) = behaviour_named ts.table.heads name.text
called ts t (Callee.Owned actor name) =
    option_and_then (owned_behaviour ts.table.heads name.text) (actor_type ts.table.heads (typed ts.table (without_labels t) actor))
called ts t (Callee.NoName place) = None

-- the action or scenario that an invocation in the text of type t invokes
abbrev pub invoked : Types → ℕ → InvokeHead → List Ident → Option ℕ
invoked ts t head names = called ts t (callee head names)

-- Labels and scopes

-- what a phase in the text of type t makes
abbrev pub made : Types → ℕ → PhaseTree → Made
made ts t (Comp label place kind arguments members) = Made.Nothing
made ts t (Invoke label head names arguments parts) = option_map_or Made.Makes (invoked ts t head names) Made.Unknown
made ts t (Wait label place elapsed) = Made.Nothing

-- the same member of the same `one_of`
abbrev pub same_turn : Turn → Turn → Bool
same_turn a b = same_path a.phase b.phase && nat_eq a.member b.member

-- a way leads into each member of a `one_of` in which the other stands
abbrev pub leads_into : List Turn → List Turn → Bool
leads_into way other = list_all (λ turn. list_any (same_turn turn) way) other

-- the labels of a `do`, as they are seen from a way
abbrev pub labels_at : Types → List Turn → Do → List Label
labels_at ts way d =
    filter_map (λ (p : PhaseHere). option_map (λ (i : Ident). record { name = i.text; path = p.path; made = made ts d.holder p.phase; hidden = not (leads_into way p.way) }) (label_of p.phase))
    (phases_in d.phase)

-- the scope of an expression in the text of type t that stands within the members of `one_of` on that way
abbrev pub scope_at : Types → ℕ → Option It → List Turn → Scope
scope_at ts t it way = record { holder = t; it = it; labels = flat_map (labels_at ts way) (option_to_list (the_do ts t)) }

-- Arguments

-- where an argument goes: to no field, as there are more of them than fields; to the duration; to nothing that the name tells; or to a field
pub data Assigned : Type 0 where
  Surplus : Assigned
  Duration : Assigned
  Unknown : (name : Ident) → Assigned
  Given : (field : Field) → Assigned

-- where the argument at place n of an invocation of type t goes
abbrev pub assigned : Types → ℕ → ℕ → Option Ident → Assigned
assigned ts t n None = option_map_or Assigned.Given (slice_get (fields ts t) n) Assigned.Surplus
assigned ts t n (Some name) = cond (is_duration name.text) Assigned.Duration (option_map_or Assigned.Given (field ts t name.text) (Assigned.Unknown name))
