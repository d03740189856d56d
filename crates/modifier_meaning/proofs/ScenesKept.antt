-- The scene of a program as written is that of the program without modifiers.
use Rattle.std.specs.Prelude.{true}
use Rattle.std.proofs.Common.{◌≡◌, refl, sym, ap, ap₂, ◌∙◌, subst, List, ◌∷◌, ◌++◌}
use Rattle.composition.specs.dsl_tree.FileTree.{ModifierDeclTree}
use Rattle.composition.specs.type_heads.Types.{Types}
use Rattle.composition.specs.declared.setting.Setting.{Setting}
use Rattle.composition.specs.Scenes.{Content}
use Rattle.composition.specs.Expansion.{Expansion, Expansions, Object, Value, Phase, End, Part, expansion}
use Rattle.composition.specs.SceneFaults.{named_scenario}
use Rattle.composition.specs.Claims.{is_instance}
use Rattle.composition.specs.Expanded.{is_vehicle, spot, spots_of, spots_in, scene_from, with_readable, scene}
use Rattle.modifier_meaning.specs.Application.{declared_modifiers}
use Rattle.modifier_meaning.specs.UnfoldedTypes.{unfolded_types}
use Rattle.modifier_meaning.specs.WrittenScene.{written_types}
use Rattle.modifier_meaning.specs.ModifierLaws.{UnfoldingKeepsScenes, UnfoldingKeepsScenarios, UnfoldingKeepsInstances}
use Rattle.modifier_meaning.proofs.Expansions.{expansion_same}
use Rattle.modifier_meaning.proofs.Bodies.{bodies_agree}

module _ (mods : List ModifierDeclTree) (ts : Types) where
  mutual
    spots_same : (tree : Expansion) → spots_of ts tree ≡ spots_of (unfolded_types mods ts) tree
    spots_same (Object path t guards parts own) = ap (λ xs. spot path guards (Content.Object (is_vehicle ts t)) ∷ xs) (spots_in_same parts)
    spots_same (Value path guards range) = refl
    spots_same (Phase path guards kind members bindings object given modifiers) = ap (λ xs. spot path guards (Content.Phase kind members) ∷ xs) (spots_in_same object)

    spots_in_same : (parts : Expansions) → spots_in ts parts ≡ spots_in (unfolded_types mods ts) parts
    spots_in_same End = refl
    spots_in_same (Part part others) = ap₂ (λ xs ys. xs ++ ys) (spots_same part) (spots_in_same others)

  scene_same : (setting : Setting) (tree : Expansion) → scene_from ts setting tree ≡ scene_from (unfolded_types mods ts) setting tree
  scene_same setting tree = ap (λ spots. record (scene_from ts setting tree) { spots = spots }) (spots_same tree)

pub unfolding_keeps_scenes : UnfoldingKeepsScenes
unfolding_keeps_scenes p t setting =
    ap (λ tree. with_readable (scene_from (written_types p) setting tree)) (expansion_same (declared_modifiers p.files) (written_types p) t)
    ∙ ap with_readable (scene_same (declared_modifiers p.files) (written_types p) setting (expansion (unfolded_types (declared_modifiers p.files) (written_types p)) t))
    ∙ ap (λ ts. scene ts t setting) (sym (bodies_agree p))

pub unfolding_keeps_scenarios : UnfoldingKeepsScenarios
unfolding_keeps_scenarios p owner name = ap (λ ts. named_scenario ts owner name) (sym (bodies_agree p))

pub unfolding_keeps_instances : UnfoldingKeepsInstances
unfolding_keeps_instances p t setting run =
    let same = unfolding_keeps_scenes p t setting in
    ((λ h. subst (λ sc. is_instance sc run ≡ true) same h), (λ h. subst (λ sc. is_instance sc run ≡ true) (sym same) h))
