use Rattle.std.proofs.Common.{◌≡◌, ◌++◌, drop, flat_map, map}
use Rattle.program_texts.specs.composition.SeenParts.{seen_occurrence}
use Rattle.program_texts.specs.composition.SeenScenes.{seen_scene}
use Rattle.program_texts.specs.SeenTexts.{types_in}
use Rattle.expr_nodes.specs.type_heads.Types.{Member}
use Rattle.program_texts.specs.type_members.Listed.{seen_listed}
use Rattle.program_texts.specs.type_members.Shared.{under_inside}
use Rattle.text_constraints.specs.Labelled.{IsLabelled}
use Rattle.text_constraints.specs.OwnTexts.{listed_kept}
use Rattle.text_constraints.proofs.members.push_members.Given as goal

abbrev pub invariant-loop-listed : goal.invariant-loop-listed
invariant-loop-listed l = (IsLabelled (types_in l.texts) l.labels.holder l.labels) × (
    map seen_occurrence l.into.items ++ flat_map (λ (m : Member). listed_kept (types_in l.texts) (seen_scene l.standing.scene.now).bindings l.standing.object.now l.standing.of (under_inside l.inside m)) (map seen_listed (drop l.listed-index l.members))
    ≡ map seen_occurrence l.fn.into.items ++ flat_map (λ (m : Member). listed_kept (types_in l.texts) (seen_scene l.standing.scene.now).bindings l.standing.object.now l.standing.of (under_inside l.inside m)) (map seen_listed l.members))
