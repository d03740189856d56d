-- The works of phases of an object.
use Rattle.std.specs.Prelude.{ℕ, List, map, option_to_list}
use Rattle.osc_base.specs.declared.path.Path.{Path}
use Rattle.dsl_tree.specs.declared.phases.InvokeNode.{InvokeNode}
use Rattle.dsl_tree.specs.Views.{argument_tree, part_tree}
use Rattle.expr_nodes.specs.type_heads.Types.{Do, Types}
use Rattle.scene_expansion.specs.composition.declared.guard.Guard.{Guard}
use Rattle.scene_expansion.specs.composition.Calls.{PhaseHere, Turn, invoked}
use Rattle.scene_expansion.specs.composition.Expansion.{Calling, calling, from_object}
use Rattle.scene_expansion.specs.composition.Scenes.{Binding}
use Rattle.scene_expansion.specs.expansion_laws.Works.{Work, Invoke, bindings_made, phase_works}

-- the choice that a turn takes
abbrev pub choice_of : Path → Turn → Guard
choice_of object turn = Guard.Choice (from_object object turn.phase) turn.member

-- an invocation
abbrev pub invocation_works : ℕ → Types → Calling → InvokeNode → List Work
invocation_works steps ts call i =
    map (λ of. Invoke steps call i.head i.names (map argument_tree i.arguments) (map part_tree i.parts) of (bindings_made ts call i.head i.names (map argument_tree i.arguments) of))
    (option_to_list (invoked ts call.holder i.head i.names))

-- a phase of an object
abbrev pub phase_here_works : ℕ → Types → List Binding → Path → List Guard → Do → PhaseHere → List Work
phase_here_works steps ts bindings object guards d p = phase_works steps ts (calling bindings object guards d p) p.phase
