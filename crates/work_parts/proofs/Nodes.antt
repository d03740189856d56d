-- The counts of a node, by those of its spot and of its constraints.
use Rattle.std.proofs.Common.{◌≡◌, ◌∙◌, refl, sym, ap, ℕ, ◌+◌, ◌*◌, ◌<◌, ◌^◌, true, false, cond, List, length, arith}
use Rattle.osc_base.specs.declared.path.Path.{Path}
use Rattle.object_works.specs.scene_expansion.composition.declared.guard.Guard.{Guard}
use Rattle.object_works.specs.scene_expansion.composition.declared.spot.ValueRange.{ValueRange}
use Rattle.object_works.specs.scene_expansion.composition.Expanded.{is_vehicle}
use Rattle.object_works.specs.scene_expansion.composition.Scenes.{Binding}
use Rattle.object_works.specs.scene_expansion.expansion_laws.Counts.{total, given_rules, given_tokens, range_rules, spot_rules}
use Rattle.object_works.specs.scene_expansion.expansion_laws.NodeCounts.{node_objects, node_slots, node_tokens}
use Rattle.object_works.specs.scene_expansion.expansion_laws.Nodes.{Node, value_node}
use Rattle.object_works.specs.scene_expansion.expansion_laws.WorkNodes.{node_of, own_within}
use Rattle.object_works.specs.scene_expansion.expansion_laws.Works as Works
use Rattle.object_works.specs.scene_expansion.AllCounts.{counts_of}
use Rattle.object_works.specs.scene_expansion.scene_texts.Capped.{capped}
use Rattle.scene_places.proofs.of_scene_texts.Caps.{capped_right, capped_small}
use Rattle.expr_nodes.specs.type_heads.Types.{Types}
use Rattle.work_counts.specs.declared.tally.Tally.{Tally}
use Rattle.work_counts.specs.Amounts.{Amount, amount_of, kept, no_amount}
use Rattle.work_parts.specs.OwnCounts.{counts_with}

-- a node whose constraints and modifiers have that amount
pub node_is : (last : ℕ) (n : Node) (objects slots rules : ℕ) (own : Tally) (a : Amount) → own ≡ kept a
    → objects ≡ node_objects n → objects < 2 ^ 64 → slots ≡ node_slots last n → slots < 2 ^ 64 → rules ≡ spot_rules (last + 1) n.spot
    → a.rules ≡ total given_rules n.given + (last + 1) * length n.modifiers
    → a.tokens ≡ node_tokens last n
    → counts_with objects slots rules own ≡ counts_of last n
node_is last n objects slots rules own a is same_objects few same_slots some same_rules of_rules of_tokens = λ i. record {
  objects = (sym (capped_small objects few) ∙ ap capped same_objects) i;
  slots = (sym (capped_small slots some) ∙ ap capped same_slots) i;
  rules = (ap (λ (t : Tally). capped (rules + t.rules)) is ∙ capped_right rules a.rules ∙ ap capped added) i;
  tokens = (ap (λ (t : Tally). t.tokens) is ∙ ap capped of_tokens) i;
}
  where
    added : rules + a.rules ≡ total given_rules n.given + (spot_rules (last + 1) n.spot + (last + 1) * length n.modifiers)
    added = sum rules a.rules (spot_rules (last + 1) n.spot) (total given_rules n.given) ((last + 1) * length n.modifiers) same_rules of_rules
      where
        sum : (r a s g m : ℕ) → r ≡ s → a ≡ g + m → r + a ≡ g + (s + m)
        sum r a s g m one two = omega arith

-- a node without modifiers
no_modifiers : (last g : ℕ) → g ≡ g + (last + 1) * 0
no_modifiers last g = omega arith

-- an object
module _ (ts : Types) (steps : ℕ) (path : Path) (t : ℕ) (guards : List Guard) (bindings : List Binding) (last : ℕ) (own : Tally) (is : own ≡ kept (amount_of (own_within steps ts path t))) where
  abbrev node : Node
  node = node_of ts (Works.Object steps path t guards bindings)

  with_slots : (slots rules : ℕ) → slots < 2 ^ 64 → slots ≡ cond (is_vehicle ts t) (3 * (last + 1)) 0 → rules ≡ cond (is_vehicle ts t) (last + 1) 0 → counts_with 1 slots rules own ≡ counts_of last node
  with_slots slots rules few same_slots same_rules =
      node_is last node 1 slots rules own (amount_of (own_within steps ts path t)) is refl (omega arith) same_slots few same_rules
      (no_modifiers last (total given_rules (own_within steps ts path t))) (no_modifiers last (total given_tokens (own_within steps ts path t)))

  pub vehicle_is : (ticks : ℕ) → ticks ≡ last + 1 → last < 2 ^ 32 → is_vehicle ts t ≡ true → counts_with 1 (3 * ticks) ticks own ≡ counts_of last node
  vehicle_is ticks same few drives =
      with_slots (3 * ticks) ticks (omega (arith, same, few)) (ap (λ n. 3 * n) same ∙ ap (λ b. cond b (3 * (last + 1)) 0) (sym drives)) (same ∙ ap (λ b. cond b (last + 1) 0) (sym drives))

  pub object_is : is_vehicle ts t ≡ false → counts_with 1 0 0 own ≡ counts_of last node
  object_is stands = with_slots 0 0 (omega arith) (ap (λ b. cond b (3 * (last + 1)) 0) (sym stands)) (ap (λ b. cond b (last + 1) 0) (sym stands))

-- a value
pub value_is : (ts : Types) (path : Path) (guards : List Guard) (range : ValueRange) (last rules : ℕ) (own : Tally) → own ≡ kept no_amount → rules ≡ range_rules range
    → counts_with 0 1 rules own ≡ counts_of last (node_of ts (Works.Value path guards range))
value_is ts path guards range last rules own is same =
    node_is last (value_node path guards range) 0 1 rules own no_amount is refl (omega arith) refl (omega arith) same (no_modifiers last 0) (no_modifiers last 0)
