use Rattle.std.proofs.Common.{◌∙◌, ap, map, rules}
use Rattle.std.proofs.lemmas.Fn.{filter_same}
use Rattle.composition.specs.Expanded.{can_apply}
use Rattle.composition.specs.SeenParts.{seen_modifier}
use Rattle.composition.specs.SeenScenes.{seen_scene}
use Rattle.scene_reads.proofs.KeptItems.{filter_seen}
use Rattle.scene_reads.proofs.readable.applied.Goals as goal

pub returns : goal.returns
returns c =
    ap (map seen_modifier) (c.of.ensures
    ∙ filter_same _ (λ x. can_apply (seen_scene c.args.driven.now.scene.now) (seen_modifier x)) _ (λ x b f' k. search rules) _ _ c.retain.ensures.filtered)
    ∙ filter_seen seen_modifier (can_apply (seen_scene c.args.driven.now.scene.now)) c.args.modifiers.items
