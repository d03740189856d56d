use Rattle.std.proofs.Common.{◌≡◌, ◌++◌, flat_map, map}
use Rattle.program_texts.specs.composition.SeenParts.{seen_occurrence}
use Rattle.program_texts.specs.composition.SeenScenes.{seen_scene}
use Rattle.expr_nodes.specs.type_heads.Members.{members}
use Rattle.program_texts.specs.type_members.Listed.{seen_row}
use Rattle.program_texts.proofs.of_program_fields.Fronts.{left_at}
use Rattle.program_texts.specs.SeenTexts.{types_in}
use Rattle.text_constraints.specs.OwnTexts.{listed_kept}
use Rattle.text_constraints.proofs.members.push_parts.Given as goal

abbrev pub invariant-loop-part : goal.invariant-loop-part
invariant-loop-part l =
    map seen_occurrence l.into.items
    ++ flat_map (listed_kept (types_in l.texts) (seen_scene l.standing.scene.now).bindings l.standing.object.now l.standing.of) (left_at (map seen_row l.lists.rows.items) l.part-items l.part-index l.span)
    ≡ map seen_occurrence l.fn.into.items
    ++ flat_map (listed_kept (types_in l.texts) (seen_scene l.standing.scene.now).bindings l.standing.object.now l.standing.of) (members (types_in l.texts) l.standing.of)
