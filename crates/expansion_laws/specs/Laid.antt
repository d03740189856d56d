-- The scene of parts that are laid out, and whether it is too large.
use Rattle.std.specs.Prelude.{ℕ, ◌+◌, ◌*◌, Bool, List, map, flat_map}
use Rattle.composition.specs.declared.setting.Setting.{Setting}
use Rattle.composition.specs.Scenes.{Spot, Binding, Scene}
use Rattle.composition.specs.Givens.{Given}
use Rattle.composition.specs.Expansion.{GivenModifier}
use Rattle.composition.specs.Expanded.{occurrence_of, modifier_of}
use Rattle.expansion_laws.specs.Nodes.{Node}
use Rattle.expansion_laws.specs.Counts.{total, spot_objects, spot_slots, spot_rules, samples_of, given_rules, given_tokens, modifier_tokens, is_past}

-- the spots of parts
abbrev pub spots_laid : List Node → List Spot
spots_laid nodes = map (λ (n : Node). n.spot) nodes

-- the bindings of parts
abbrev pub bindings_laid : List Node → List Binding
bindings_laid nodes = flat_map (λ (n : Node). n.bindings) nodes

-- the constraints of parts
abbrev pub givens_laid : List Node → List Given
givens_laid nodes = flat_map (λ (n : Node). n.given) nodes

-- the modifiers of parts
abbrev pub modifiers_laid : List Node → List GivenModifier
modifiers_laid nodes = flat_map (λ (n : Node). n.modifiers) nodes

-- the scene of lists of parts, each of which stands in one of them before the parts in it, and in the other after them
abbrev pub scene_laid : Setting → List (List ℕ) → List Node → List Node → Scene
scene_laid setting texts before after =
    let bindings = bindings_laid before in
    record {
      spots = spots_laid before;
      bindings = bindings;
      occurrences = map (occurrence_of bindings) (givens_laid after);
      modifiers = map (λ (g : GivenModifier). modifier_of bindings g.modifier) (modifiers_laid before);
      setting = setting;
      texts = texts;
    }

-- the rules of parts
abbrev pub rules_laid : ℕ → List Node → List Node → ℕ
rules_laid ticks before after = total given_rules (givens_laid after) + (total (spot_rules ticks) (spots_laid before) + total (λ (m : GivenModifier). ticks) (modifiers_laid before))

-- the copied tokens of parts
abbrev pub tokens_laid : ℕ → List Node → List Node → ℕ
tokens_laid ticks before after = total given_tokens (givens_laid after) + ticks * total modifier_tokens (modifiers_laid before)

-- the parts pass a limit
abbrev pub is_past_laid : Setting → List Node → List Node → Bool
is_past_laid setting before after =
    is_past (total spot_objects (spots_laid before)) (total (spot_slots (samples_of setting.ticks)) (spots_laid before)) (rules_laid (setting.ticks + 1) before after) (tokens_laid (setting.ticks + 1) before after)
