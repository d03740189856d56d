use Rattle.std.proofs.Common.{◌≡◌, ◌≤◌, ◌++◌, flat_map, length, map, reverse, take}
use Rattle.program_texts.specs.composition.SeenParts.{seen_occurrence}
use Rattle.program_texts.specs.SeenTexts.{types_in}
use Rattle.text_constraints.specs.Kept.{seen_owner}
use Rattle.text_constraints.specs.OwnTexts.{base_kept}
use Rattle.text_constraints.specs.Sites.{seen_site}
use Rattle.text_constraints.proofs.conditions.push_line.Given as goal

abbrev pub invariant-loop-left : goal.invariant-loop-left
invariant-loop-left l = (l.left ≤ length l.line) × (
    map seen_occurrence l.into.items ++ flat_map (base_kept (types_in l.texts) l.of (seen_site l.text) (seen_owner l.owner) l.place) (reverse (take l.left l.line))
    ≡ map seen_occurrence l.fn.into.items ++ flat_map (base_kept (types_in l.texts) l.of (seen_site l.text) (seen_owner l.owner) l.place) (reverse l.line))

abbrev pub decreases-loop-left : goal.decreases-loop-left
decreases-loop-left l = l.left
