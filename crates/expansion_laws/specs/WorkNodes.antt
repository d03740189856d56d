-- The node of each part that is laid out.
use Rattle.std.specs.Prelude.{ℕ, zero, suc, cond, List, [], ◌∷◌, ◌++◌, Some, None, length, map, flat_map, codes, is_some, option_to_list}
use Rattle.std.specs.List.{range_with_len}
use Rattle.composition.specs.osc_base.declared.path.Path.{Path}
use Rattle.composition.specs.osc_base.Paths.{root, then_member, then_do}
use Rattle.composition.specs.type_heads.Types.{Types}
use Rattle.composition.specs.type_heads.Members.{the_do}
use Rattle.composition.specs.expr_nodes.Scope.{It}
use Rattle.composition.specs.declared.spot.PhaseKind.{PhaseKind}
use Rattle.composition.specs.Givens.{Given, own_givens}
use Rattle.composition.specs.Expansion.{here_in, argument_named, composition_kind, given_duration, given_argument, of_arguments, part_rule, part_modifier}
use Rattle.expansion_laws.specs.Nodes.{Node, object_node, value_node, phase_node, nodes_of, closed_of}
use Rattle.expansion_laws.specs.Works.{Work, Object, Value, Comp, Invoke, Wait, expansion_of}

-- the own constraints of an object with so many steps left
abbrev pub own_within : ℕ → Types → Path → ℕ → List Given
own_within zero ts path t = []
own_within (suc steps) ts path t = own_givens ts path t

-- its node
abbrev pub node_of : Types → Work → Node
node_of ts (Object steps path t guards bindings) = object_node ts path t guards (own_within steps ts path t)
node_of ts (Value path guards range) = value_node path guards range
node_of ts (Comp call kind arguments count) =
    phase_node call.path call.guards (composition_kind kind arguments) (map (then_member call.path) (range_with_len 0 count)) []
    (map (given_duration ts call) (option_to_list (argument_named (codes "duration") arguments))) []
node_of ts (Invoke steps call head names arguments parts of bindings) =
    let here = here_in ts call (Some (It.Of of None)) in
    let has_do = is_some (the_do ts of) in
    phase_node call.path call.guards (cond has_do PhaseKind.Scenario PhaseKind.Action) (cond has_do (then_do call.path ∷ []) []) bindings
    (of_arguments ts of (given_argument ts call here) 0 arguments ++ flat_map (part_rule ts call here) parts)
    (flat_map (part_modifier ts call here) parts)
node_of ts (Wait call elapsed) = phase_node call.path call.guards PhaseKind.Wait [] [] (given_duration ts call elapsed ∷ []) []

-- the nodes of what is left
abbrev pub nodes_for : Types → Work → List Node
nodes_for ts w = nodes_of ts (expansion_of ts w)

abbrev pub closed_for : Types → Work → List Node
closed_for ts w = closed_of ts (expansion_of ts w)

-- the node of the named scenario
abbrev pub root_node : Types → ℕ → Node
root_node ts t = object_node ts root t [] (own_within (length ts.table.heads) ts root t)
