use Rattle.std.proofs.Common.{◌≡◌, ◌++◌, drop, length, map}
use Rattle.program_texts.specs.composition.SeenParts.{seen_occurrence}
use Rattle.dsl_tree.specs.Views.{expr_tree}
use Rattle.expr_nodes.specs.Seen.{seen_part}
use Rattle.text_constraints.specs.Elements.{AreSampled, sample_in}
use Rattle.text_constraints.specs.Kept.{seen_owner}
use Rattle.text_constraints.specs.OwnTexts.{elements_kept}
use Rattle.text_constraints.specs.Sites.{seen_site}
use Rattle.text_constraints.proofs.initials.push_elements.Given as goal

abbrev pub invariant-loop-place : goal.invariant-loop-place
invariant-loop-place l = AreSampled l.types.table (seen_site l.text).scope (length l.values) (sample_in (seen_part l.list)) →
    map seen_occurrence l.into.items ++ elements_kept l.types.table (seen_site l.text) (seen_owner l.owner) l.place (map expr_tree (drop l.place l.values))
    ≡ map seen_occurrence l.fn.into.items ++ elements_kept l.types.table (seen_site l.text) (seen_owner l.owner) 0 (map expr_tree l.values)
