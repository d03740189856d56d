-- The scene of the named scenario, or its fault, by the works that are laid out.
use Rattle.std.proofs.Common.{◌≡◌, ℕ, Bool, List, ◌∙◌, Option, Some, ap, sym}
use Rattle.std.specs.Prelude.{option_map}
use Rattle.program_calls.specs.type_heads.Types.{Types}
use Rattle.program_calls.specs.composition.declared.setting.Setting.{Setting}
use Rattle.program_calls.specs.composition.Scenes.{Scene}
use Rattle.program_calls.specs.composition.Expansion.{expansion}
use Rattle.program_calls.specs.composition.Expanded.{with_readable, scene}
use Rattle.program_calls.specs.composition.SceneFaults.{is_too_large}
use Rattle.scene_texts.specs.expansion_laws.Nodes.{Node, nodes_of, closed_of}
use Rattle.scene_texts.specs.expansion_laws.Laid.{scene_laid}
use Rattle.scene_texts.specs.expansion_laws.NodeCounts.{pass_limits}
use Rattle.scene_texts.proofs.of_expansion_laws.NodeTotals.{too_large_is}
use Rattle.scene_texts.proofs.of_expansion_laws.LaidScenes.{laid_scene}

module _ (ts : Types) (t : ℕ) (setting : Setting) (before : List Node) (is_before : before ≡ nodes_of ts (expansion ts t)) where
  -- the limits are decided by the parts
  pub judged : (past answer : Bool) → past ≡ pass_limits setting.ticks before → past ≡ answer → is_too_large ts t setting ≡ answer
  judged past answer counted is = too_large_is ts t setting ∙ ap (pass_limits setting.ticks) (sym is_before) ∙ sym counted ∙ is

  pub limits_are : (past : Bool) → past ≡ pass_limits setting.ticks before → past ≡ is_too_large ts t setting
  limits_are past counted = counted ∙ ap (pass_limits setting.ticks) is_before ∙ sym (too_large_is ts t setting)

  -- the scene of the parts is the scenario's
  pub scene_is : (after : List Node) (s : Scene) → after ≡ closed_of ts (expansion ts t) → s ≡ with_readable (scene_laid setting ts.table.texts before after) → s ≡ scene ts t setting
  scene_is after s is_after is = is ∙ sym (laid_scene ts t setting before after is_before is_after)

-- the scene of what is named
pub named_is : (ts : Types) (setting : Setting) (named : Option ℕ) (t : ℕ) (s : Scene) → Some t ≡ named → s ≡ scene ts t setting → option_map (λ u. scene ts u setting) named ≡ Some s
named_is ts setting named t s found is = ap (option_map (λ u. scene ts u setting)) (sym found) ∙ ap (λ (x : Scene). Some x) (sym is)
