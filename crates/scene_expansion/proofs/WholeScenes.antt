-- The scene of works that are laid out.
use Rattle.std.proofs.Common.{◌≡◌, ℕ, ◌<◌, Bool, true, false, cond, List, [], ◌∷◌, ◌++◌, ◌∙◌, Option, Some, None, Result, Ok, Err, length, map, filter, flat_map, refl, ap, ap₂, sym, subst}
use Rattle.std.specs.Prelude.{IfOk, IfSome}
use Rattle.program_calls.specs.type_heads.Types.{Types}
use Rattle.program_calls.specs.composition.declared.setting.Setting.{Setting}
use Rattle.program_calls.specs.composition.declared.scene.Scene.{Scene as OwnScene}
use Rattle.program_calls.specs.composition.declared.part.Spot.{Spot as OwnSpot}
use Rattle.program_calls.specs.composition.declared.part.Binding.{Binding as OwnBinding}
use Rattle.program_calls.specs.composition.declared.part.Occurrence.{Occurrence as OwnOccurrence}
use Rattle.program_calls.specs.composition.declared.part.ModifierSpot.{ModifierSpot as OwnModifier}
use Rattle.program_calls.specs.composition.SeenParts.{seen_spot, seen_binding, seen_occurrence, seen_modifier, scene_of}
use Rattle.program_calls.specs.composition.SeenScenes.{seen_scene}
use Rattle.program_calls.specs.composition.Scenes.{Spot, Binding, Occurrence, ModifierSpot, Scene}
use Rattle.program_calls.specs.composition.Expansion.{expansion}
use Rattle.program_calls.specs.composition.Expanded.{occurrence_of, can_be_asked, can_apply, with_readable}
use Rattle.program_calls.specs.composition.SceneFaults.{is_too_large}
use Rattle.scene_texts.specs.expansion_laws.Nodes.{Node, nodes_of, closed_of}
use Rattle.scene_texts.specs.expansion_laws.Laid.{spots_laid, bindings_laid, givens_laid, modifiers_laid, scene_laid}
use Rattle.scene_texts.specs.expansion_laws.Works.{Work, root_works}
use Rattle.scene_texts.specs.expansion_laws.WorkNodes.{node_of, nodes_for, closed_for, root_node}
use Rattle.scene_texts.proofs.of_expansion_laws.WorkSteps.{root_nodes, root_closed}
use Rattle.scene_texts.proofs.of_expansion_laws.LaidScenes.{many_parts, many_parts_after}
use Rattle.scene_expansion.specs.declared.work.Work.{Work as OwnWork}
use Rattle.scene_expansion.specs.Walks.{nodes_done, whole_before, whole_after, modifier_at, bare_scene}

-- ---- all works

module _ (ts : Types) (t : ℕ) (root : Work) (parts : List Work) (is_root : node_of ts root ≡ root_node ts t) (are_parts : parts ≡ root_works ts t) where
  before_is : whole_before ts root parts ≡ nodes_of ts (expansion ts t)
  before_is = ap₂ (λ (n : Node) (ws : List Work). n ∷ flat_map (nodes_for ts) ws) is_root are_parts ∙ sym (root_nodes ts t)

  after_is : whole_after ts root parts ≡ closed_of ts (expansion ts t)
  after_is = ap₂ (λ (n : Node) (ws : List Work). flat_map (closed_for ts) ws ++ n ∷ []) is_root are_parts ∙ sym (root_closed ts t)

  pub before_all : {V E : Type 0} (r : Result (Option V) E) (items : V → List OwnWork) → IfOk r (λ laid. IfSome laid (λ ws. nodes_done ts (items ws) ≡ whole_before ts root parts))
      → IfOk r (λ laid. IfSome laid (λ ws. nodes_done ts (items ws) ≡ nodes_of ts (expansion ts t)))
  before_all (Ok (Some ws)) items h = h ∙ before_is
  before_all (Ok None) items h = h
  before_all (Err e) items h = h

  pub before_many : {V E : Type 0} (r : Result (Option V) E) (items : V → List OwnWork) → IfOk r (λ laid. laid ≡ None → 131072 < length (whole_before ts root parts))
      → IfOk r (λ laid. laid ≡ None → (s : Setting) → is_too_large ts t s ≡ true)
  before_many (Ok laid) items h = λ none s. many_parts ts t s (subst (λ (ns : List Node). 131072 < length ns) before_is (h none))
  before_many (Err e) items h = h

  pub after_all : {V E : Type 0} (r : Result (Option V) E) (items : V → List OwnWork) → IfOk r (λ laid. IfSome laid (λ ws. nodes_done ts (items ws) ≡ whole_after ts root parts))
      → IfOk r (λ laid. IfSome laid (λ ws. nodes_done ts (items ws) ≡ closed_of ts (expansion ts t)))
  after_all (Ok (Some ws)) items h = h ∙ after_is
  after_all (Ok None) items h = h
  after_all (Err e) items h = h

  pub after_many : {V E : Type 0} (r : Result (Option V) E) (items : V → List OwnWork) → IfOk r (λ laid. laid ≡ None → 131072 < length (whole_after ts root parts))
      → IfOk r (λ laid. laid ≡ None → (s : Setting) → is_too_large ts t s ≡ true)
  after_many (Ok laid) items h = λ none s. many_parts_after ts t s (subst (λ (ns : List Node). 131072 < length ns) after_is (h none))
  after_many (Err e) items h = h

-- ---- the scene

-- a scene without constraints and modifiers
pub bare_is : (setting : Setting) (texts given_texts : List (List ℕ)) (nodes : List Node) (spots : List OwnSpot) (bindings : List OwnBinding) (occurrences : List OwnOccurrence) (modifiers : List OwnModifier)
    → map seen_spot spots ≡ spots_laid nodes → map seen_binding bindings ≡ bindings_laid nodes → given_texts ≡ texts → occurrences ≡ [] → modifiers ≡ []
    → scene_of spots bindings occurrences modifiers setting given_texts ≡ bare_scene setting texts nodes
bare_is setting texts given_texts nodes spots bindings occurrences modifiers ss bs ts os ms = λ i. record {
  spots = ss i;
  bindings = bs i;
  occurrences = map seen_occurrence (os i);
  modifiers = map seen_modifier (ms i);
  setting = setting;
  texts = ts i;
}

-- a scene with other constraints and modifiers
abbrev put : Scene → List Occurrence → List ModifierSpot → Scene
put scene os ms = record scene { occurrences = os; modifiers = ms }

-- with those of parts that can be there
abbrev asked : List Node → List Node → Scene → Scene
asked before after scene =
    put scene (filter (can_be_asked scene) (map (occurrence_of scene.bindings) (givens_laid after))) (filter (can_apply scene) (map (modifier_at scene.bindings) (modifiers_laid before)))

asked_is : (setting : Setting) (texts : List (List ℕ)) (before after : List Node) → asked before after (bare_scene setting texts before) ≡ with_readable (scene_laid setting texts before after)
asked_is setting texts before after = refl

pub whole_is : (setting : Setting) (texts : List (List ℕ)) (before after : List Node) (scene : OwnScene) (os : List OwnOccurrence) (ms : List OwnModifier)
    → seen_scene scene ≡ bare_scene setting texts before
    → map seen_occurrence os ≡ filter (can_be_asked (seen_scene scene)) (map (occurrence_of (seen_scene scene).bindings) (givens_laid after))
    → map seen_modifier ms ≡ filter (can_apply (seen_scene scene)) (map (modifier_at (seen_scene scene).bindings) (modifiers_laid before))
    → scene_of scene.spots scene.bindings os ms scene.setting scene.texts ≡ with_readable (scene_laid setting texts before after)
whole_is setting texts before after scene os ms bare is_os is_ms =
    ap₂ (λ (xs : List Occurrence) (ys : List ModifierSpot). put (seen_scene scene) xs ys) is_os is_ms
    ∙ ap (asked before after) bare ∙ asked_is setting texts before after
