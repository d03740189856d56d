-- Counts as the program keeps them: each stops at the greatest number of 64 bits.
use Rattle.std.specs.Prelude.{ℕ, ◌+◌, Bool, List}
use Rattle.scene_texts.specs.expansion_laws.Nodes.{Node}
use Rattle.scene_texts.specs.expansion_laws.Counts.{total, is_past}
use Rattle.scene_texts.specs.expansion_laws.NodeCounts.{node_objects, node_slots, node_rules, node_tokens}
use Rattle.scene_texts.specs.Capped.{capped}
use Rattle.scene_expansion.specs.declared.counts.Counts.{Counts}

-- no parts
abbrev pub no_counts : Counts
no_counts = record { objects = 0; slots = 0; rules = 0; tokens = 0 }

-- the counts of a part, given the last tick
abbrev pub counts_of : ℕ → Node → Counts
counts_of last n = record {
  objects = capped (node_objects n);
  slots = capped (node_slots last n);
  rules = capped (node_rules last n);
  tokens = capped (node_tokens last n);
}

-- the counts of parts
abbrev pub all_counts : ℕ → List Node → Counts
all_counts last nodes = record {
  objects = capped (total node_objects nodes);
  slots = capped (total (node_slots last) nodes);
  rules = capped (total (node_rules last) nodes);
  tokens = capped (total (node_tokens last) nodes);
}

-- the counts of parts and of further ones
abbrev pub sum_of : Counts → Counts → Counts
sum_of some more = record {
  objects = capped (some.objects + more.objects);
  slots = capped (some.slots + more.slots);
  rules = capped (some.rules + more.rules);
  tokens = capped (some.tokens + more.tokens);
}

-- a count passes its limit
abbrev pub are_past : Counts → Bool
are_past c = is_past c.objects c.slots c.rules c.tokens
