use Rattle.std.proofs.Common.{◌∙◌, ap, map, rules}
use Rattle.std.proofs.lemmas.Fn.{filter_same}
use Rattle.composition.specs.Expanded.{can_be_asked}
use Rattle.composition.specs.SeenParts.{seen_occurrence}
use Rattle.composition.specs.SeenScenes.{seen_scene}
use Rattle.scene_reads.proofs.KeptItems.{filter_seen}
use Rattle.scene_reads.proofs.readable.readable_occurrences.Goals as goal

pub returns : goal.returns
returns c =
    ap (map seen_occurrence) (c.of.ensures
    ∙ filter_same _ (λ x. can_be_asked (seen_scene c.args.scene.now) (seen_occurrence x)) _ (λ x b f' k. search rules) _ _ c.retain.ensures.filtered)
    ∙ filter_seen seen_occurrence (can_be_asked (seen_scene c.args.scene.now)) c.args.occurrences.items
