-- How many objects, slots, rules and tokens each part has by itself, given the last tick.
use Rattle.std.specs.Prelude.{ℕ, ◌+◌, ◌*◌, Bool, List, length}
use Rattle.expansion_laws.specs.Nodes.{Node}
use Rattle.expansion_laws.specs.Counts.{total, spot_objects, spot_slots, spot_rules, samples_of, given_rules, given_tokens, modifier_tokens, is_past}

abbrev pub node_objects : Node → ℕ
node_objects n = spot_objects n.spot

abbrev pub node_slots : ℕ → Node → ℕ
node_slots last n = spot_slots (samples_of last) n.spot

abbrev pub node_rules : ℕ → Node → ℕ
node_rules last n = total given_rules n.given + (spot_rules (last + 1) n.spot + (last + 1) * length n.modifiers)

abbrev pub node_tokens : ℕ → Node → ℕ
node_tokens last n = total given_tokens n.given + (last + 1) * total modifier_tokens n.modifiers

-- parts pass a limit
abbrev pub pass_limits : ℕ → List Node → Bool
pass_limits last nodes = is_past (total node_objects nodes) (total (node_slots last) nodes) (total (node_rules last) nodes) (total (node_tokens last) nodes)
