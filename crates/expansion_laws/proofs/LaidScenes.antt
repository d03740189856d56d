-- The scene of a scenario is that of its parts, and is too large if they pass a limit.
use Rattle.std.proofs.Common.{◌≡◌, ℕ, ◌+◌, ◌*◌, ◌<◌, Bool, true, List, [], ◌∷◌, ◌∙◌, length, map, refl, ap, ap₂, sym, add-one, arith, length-append}
use Rattle.std.proofs.lemmas.List.{length-map}
use Rattle.composition.specs.type_heads.Types.{Types}
use Rattle.composition.specs.declared.setting.Setting.{Setting}
use Rattle.composition.specs.Scenes.{Spot, Binding, Scene}
use Rattle.composition.specs.Givens.{Given}
use Rattle.composition.specs.Expansion.{GivenModifier, Expansion, Expansions, Object, Value, Phase, End, Part, expansion}
use Rattle.composition.specs.Expanded.{spots_of, bindings_of, givens_of, modifiers_of, occurrence_of, modifier_of, scene_from, with_readable, scene}
use Rattle.composition.specs.SceneFaults.{is_too_large, passes}
use Rattle.expansion_laws.specs.Nodes.{Node, nodes_of, nodes_in, closed_of, closed_in, object_node, phase_node}
use Rattle.expansion_laws.specs.Counts.{total, spot_objects, spot_slots, spot_rules, samples_of, given_rules, given_tokens, modifier_tokens, is_past}
use Rattle.expansion_laws.specs.Laid.{spots_laid, bindings_laid, scene_laid, is_past_laid}
use Rattle.expansion_laws.proofs.NodeLists.{spots_are, bindings_are, modifiers_are, givens_are}
use Rattle.expansion_laws.proofs.Passing.{passes_is, many_spots}

-- both orders have as many parts

mutual
  pub closed_length : (ts : Types) (e : Expansion) → length (closed_of ts e) ≡ length (nodes_of ts e)
  closed_length ts (Object path t guards parts own) =
      length-append (closed_in ts parts) (object_node ts path t guards own ∷ []) ∙ ap (λ n. n + 1) (closed_lengths ts parts) ∙ add-one (length (nodes_in ts parts))
  closed_length ts (Value path guards range) = refl
  closed_length ts (Phase path guards kind members bindings object given modifiers) =
      length-append (closed_in ts object) (phase_node path guards kind members bindings given modifiers ∷ []) ∙ ap (λ n. n + 1) (closed_lengths ts object) ∙ add-one (length (nodes_in ts object))

  closed_lengths : (ts : Types) (es : Expansions) → length (closed_in ts es) ≡ length (nodes_in ts es)
  closed_lengths ts End = refl
  closed_lengths ts (Part part others) =
      length-append (closed_of ts part) (closed_in ts others) ∙ ap₂ (λ n m. n + m) (closed_length ts part) (closed_lengths ts others)
      ∙ sym (length-append (nodes_of ts part) (nodes_in ts others))

-- the scene

module _ (ts : Types) (setting : Setting) (tree : Expansion) where
  scene_of_nodes : scene_from ts setting tree ≡ scene_laid setting ts.table.texts (nodes_of ts tree) (closed_of ts tree)
  scene_of_nodes =
      let parts : List Spot → List Binding → List Given → List GivenModifier → Scene = λ ss bs gs ms. record {
        spots = ss;
        bindings = bs;
        occurrences = map (occurrence_of bs) gs;
        modifiers = map (λ (g : GivenModifier). modifier_of bs g.modifier) ms;
        setting = setting;
        texts = ts.table.texts;
      } in
      ap (λ (ss : List Spot). parts ss (bindings_of tree) (givens_of tree) (modifiers_of tree)) (spots_are ts tree)
      ∙ ap (λ (bs : List Binding). parts (spots_laid (nodes_of ts tree)) bs (givens_of tree) (modifiers_of tree)) (bindings_are ts tree)
      ∙ ap₂ (λ (gs : List Given) (ms : List GivenModifier). parts (spots_laid (nodes_of ts tree)) (bindings_laid (nodes_of ts tree)) gs ms) (givens_are ts tree) (modifiers_are ts tree)

  past_of_nodes : passes tree (scene_from ts setting tree) ≡ is_past_laid setting (nodes_of ts tree) (closed_of ts tree)
  past_of_nodes =
      let counted : List Spot → List Given → List GivenModifier → Bool = λ ss gs ms.
      is_past (total spot_objects ss) (total (spot_slots (samples_of setting.ticks)) ss)
      (total given_rules gs + (total (spot_rules (setting.ticks + 1)) ss + total (λ (m : GivenModifier). setting.ticks + 1) ms))
      (total given_tokens gs + (setting.ticks + 1) * total modifier_tokens ms) in
      passes_is ts setting tree
      ∙ ap (λ (ss : List Spot). counted ss (givens_of tree) (modifiers_of tree)) (spots_are ts tree)
      ∙ ap₂ (λ (gs : List Given) (ms : List GivenModifier). counted (spots_laid (nodes_of ts tree)) gs ms) (givens_are ts tree) (modifiers_are ts tree)

module _ (ts : Types) (t : ℕ) (setting : Setting) (before after : List Node) (is_before : before ≡ nodes_of ts (expansion ts t)) (is_after : after ≡ closed_of ts (expansion ts t)) where
  pub laid_whole : scene_from ts setting (expansion ts t) ≡ scene_laid setting ts.table.texts before after
  laid_whole = scene_of_nodes ts setting (expansion ts t) ∙ ap₂ (λ (xs ys : List Node). scene_laid setting ts.table.texts xs ys) (sym is_before) (sym is_after)

  pub laid_scene : scene ts t setting ≡ with_readable (scene_laid setting ts.table.texts before after)
  laid_scene = ap with_readable laid_whole

  pub laid_past : is_too_large ts t setting ≡ is_past_laid setting before after
  laid_past = past_of_nodes ts setting (expansion ts t) ∙ ap₂ (λ (xs ys : List Node). is_past_laid setting xs ys) (sym is_before) (sym is_after)

-- a scenario of so many parts is too large
pub many_parts : (ts : Types) (t : ℕ) (setting : Setting) → 131072 < length (nodes_of ts (expansion ts t)) → is_too_large ts t setting ≡ true
many_parts ts t setting many =
    let same : length (spots_of ts (expansion ts t)) ≡ length (nodes_of ts (expansion ts t)) =
    ap length (spots_are ts (expansion ts t)) ∙ length-map (nodes_of ts (expansion ts t)) (λ (n : Node). n.spot) in
    many_spots ts setting (expansion ts t) (omega (arith, same, many))

pub many_parts_after : (ts : Types) (t : ℕ) (setting : Setting) → 131072 < length (closed_of ts (expansion ts t)) → is_too_large ts t setting ≡ true
many_parts_after ts t setting many =
    let same : length (closed_of ts (expansion ts t)) ≡ length (nodes_of ts (expansion ts t)) = closed_length ts (expansion ts t) in
    many_parts ts t setting (omega (arith, same, many))
