use Rattle.std.proofs.Common.{◌≡◌, ◌++◌, drop, flat_map, map}
use Rattle.text_constraints.specs.composition.SeenParts.{seen_occurrence}
use Rattle.dsl_tree.specs.Views.{part_tree}
use Rattle.text_constraints.specs.Kept.{seen_owner}
use Rattle.text_constraints.specs.Sites.{seen_site}
use Rattle.work_constraints.specs.CallTexts.{part_kept}
use Rattle.work_constraints.proofs.arguments.push_parts.Given as goal

abbrev pub invariant-loop-part : goal.invariant-loop-part
invariant-loop-part l =
    map seen_occurrence l.into.items ++ flat_map (part_kept l.types.table (seen_site l.text) (seen_owner l.owner)) (map part_tree (drop l.part-index l.parts))
    ≡ map seen_occurrence l.fn.into.items ++ flat_map (part_kept l.types.table (seen_site l.text) (seen_owner l.owner)) (map part_tree l.parts)
