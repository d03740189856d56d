-- What is left to lay out while a scenario is expanded.
use Rattle.std.specs.Prelude.{ℕ, zero, suc, ◌&&◌, not, cond, List, [], ◌∷◌, ◌++◌, Option, Some, None, length, map, filter, filter_map, flat_map, codes, is_some, option_to_list}
use Rattle.std.specs.List.{range_with_len}
use Rattle.composition.specs.osc_base.declared.path.Path.{Path}
use Rattle.composition.specs.osc_base.Paths.{root, then_name, then_index, then_member, then_do}
use Rattle.composition.specs.dsl_tree.declared.parts.Ident.{Ident}
use Rattle.composition.specs.dsl_tree.declared.phases.CompKind.{CompKind}
use Rattle.composition.specs.dsl_tree.declared.phases.InvokeHead.{InvokeHead}
use Rattle.composition.specs.dsl_tree.ExprTree.{ExprTree}
use Rattle.composition.specs.dsl_tree.PhaseTree as PhaseTrees
use Rattle.composition.specs.dsl_tree.PhaseTree.{ArgumentTree, PartTree, PhaseTree, phases_of}
use Rattle.composition.specs.type_heads.Table.{form, owner, is_object}
use Rattle.composition.specs.type_heads.Types.{Types, Field, Do}
use Rattle.composition.specs.type_heads.Members.{fields, field_type, list_length, the_do}
use Rattle.composition.specs.expr_nodes.Scope.{It}
use Rattle.composition.specs.declared.guard.Guard.{Guard}
use Rattle.composition.specs.declared.spot.ValueRange.{ValueRange}
use Rattle.composition.specs.declared.spot.PhaseKind.{PhaseKind}
use Rattle.composition.specs.Calls.{PhaseHere, phases_in, callee, invoked}
use Rattle.composition.specs.Scenes.{Binding}
use Rattle.composition.specs.Ranges.{range_of}
use Rattle.composition.specs.Homes.{is_bound}
use Rattle.composition.specs.Givens.{guards_under}
use Rattle.composition.specs.Expansion as Expansions
use Rattle.composition.specs.Expansion.{Expansion, Maker, Calling, calling, here_in, argument_named, composition_kind, given_duration, actor_binding, of_arguments, argument_binding, given_argument, part_rule, part_modifier, expand_within}

-- An object of a type with so many steps left, under conditions and with the bindings of its parameters; a value; a composition of so many members;
-- an invocation of a type with the bindings that it makes; and a `wait`.
pub data Work : Type 0 where
  Object : (steps : ℕ) (path : Path) (type : ℕ) (guards : List Guard) (bindings : List Binding) → Work
  Value : (path : Path) (guards : List Guard) (range : ValueRange) → Work
  Comp : (call : Calling) (kind : CompKind) (arguments : List ArgumentTree) (count : ℕ) → Work
  Invoke : (steps : ℕ) (call : Calling) (head : InvokeHead) (names : List Ident) (arguments : List ArgumentTree) (parts : List PartTree) (of : ℕ) (bindings : List Binding) → Work
  Wait : (call : Calling) (elapsed : ExprTree) → Work

-- what makes the objects in an object with so many steps left for them
abbrev pub maker : Types → ℕ → Maker
maker ts steps path of conditions bound = expand_within steps ts path of conditions bound []

-- the expansion that it comes to
abbrev pub expansion_of : Types → Work → Expansion
expansion_of ts (Object steps path t guards bindings) = expand_within steps ts path t guards bindings []
expansion_of ts (Value path guards range) = Expansions.Value path guards range
expansion_of ts (Comp call kind arguments count) =
    Expansions.Phase call.path call.guards (composition_kind kind arguments) (map (then_member call.path) (range_with_len 0 count)) [] Expansions.End
    (map (given_duration ts call) (option_to_list (argument_named (codes "duration") arguments))) []
expansion_of ts (Invoke steps call head names arguments parts of bindings) =
    let here = here_in ts call (Some (It.Of of None)) in
    let has_do = is_some (the_do ts of) in
    Expansions.Phase call.path call.guards (cond has_do PhaseKind.Scenario PhaseKind.Action) (cond has_do (then_do call.path ∷ []) []) bindings
    (Expansions.Part (maker ts steps call.path of call.guards bindings) Expansions.End)
    (of_arguments ts of (given_argument ts call here) 0 arguments ++ flat_map (part_rule ts call here) parts)
    (flat_map (part_modifier ts call here) parts)
expansion_of ts (Wait call elapsed) = Expansions.Phase call.path call.guards PhaseKind.Wait [] [] Expansions.End (given_duration ts call elapsed ∷ []) []

-- the bindings that a call makes
abbrev pub bindings_made : Types → Calling → InvokeHead → List Ident → List ArgumentTree → ℕ → List Binding
bindings_made ts call head names arguments of =
    actor_binding ts call (callee head names) ++ of_arguments ts of (argument_binding ts call (here_in ts call (Some (It.Of of None)))) 0 arguments

-- ---- the parts of an object

-- one value, or one for each element of a list
abbrev pub value_works : Path → List Guard → Option ℕ → ValueRange → List Work
value_works path guards None range = Value path guards range ∷ []
value_works path guards (Some length) range = map (λ n. Value (then_index path n) guards range) (range_with_len 0 length)

-- what a field holds
abbrev pub field_works : ℕ → Types → List Binding → Path → ℕ → List Guard → Field → List Work
field_works steps ts bindings object t guards f =
    let path = then_name object f.name.text in
    let conditions = guards ++ guards_under ts object t f.under in
    let types = option_to_list (field_type ts f) in
    map (λ of. Object steps path of conditions []) (filter (λ of. is_object (form ts.table.heads of) && not (is_bound bindings path)) types)
    ++ flat_map (value_works path conditions (list_length f.tree)) (filter_map (λ of. range_of (form ts.table.heads of)) types)

-- a phase
abbrev pub phase_works : ℕ → Types → Calling → PhaseTree → List Work
phase_works steps ts call (PhaseTrees.Comp label place kind arguments members) = Comp call kind arguments (length (phases_of members)) ∷ []
phase_works steps ts call (PhaseTrees.Invoke label head names arguments parts) =
    map (λ of. Invoke steps call head names arguments parts of (bindings_made ts call head names arguments of)) (option_to_list (invoked ts call.holder head names))
phase_works steps ts call (PhaseTrees.Wait label place elapsed) = Wait call elapsed ∷ []

-- the phases of a `do`
abbrev pub do_works : ℕ → Types → List Binding → Path → List Guard → Do → List Work
do_works steps ts bindings object guards d = flat_map (λ (p : PhaseHere). phase_works steps ts (calling bindings object guards d p) p.phase) (phases_in d.phase)

-- what an object holds beside an actor of its own
abbrev pub object_works : ℕ → Types → Path → ℕ → List Guard → List Binding → List Work
object_works steps ts path t guards bindings =
    flat_map (field_works steps ts bindings path t guards) (fields ts t) ++ flat_map (do_works steps ts bindings path guards) (option_to_list (the_do ts t))

-- the parts in it
abbrev pub parts_of : Types → Work → List Work
parts_of ts (Object zero path t guards bindings) = []
parts_of ts (Object (suc steps) path t guards bindings) = object_works steps ts path t guards bindings
parts_of ts (Invoke steps call head names arguments parts of bindings) = Object steps call.path of call.guards bindings ∷ []
parts_of ts _ = []

-- the actor that an owned scenario has by itself if nothing invokes it
abbrev pub actor_works : Types → ℕ → List Work
actor_works ts t = map (λ a. Object (length ts.table.heads) (then_name root (codes "actor")) a [] []) (option_to_list (owner ts.table.heads t))

-- the parts of the named scenario, with so many steps left
abbrev pub root_works_within : ℕ → Types → ℕ → List Work
root_works_within zero ts t = []
root_works_within (suc steps) ts t = actor_works ts t ++ object_works steps ts root t [] []

-- the parts of the named scenario
abbrev pub root_works : Types → ℕ → List Work
root_works ts t = root_works_within (length ts.table.heads) ts t
