use Rattle.std.proofs.Common.{◌∙◌, ap, arith}
use Rattle.scene_conditions.specs.composition.Scenes.{Scene, Occurrence}
use Rattle.scene_conditions.specs.composition.SeenParts.{seen_occurrence}
use Rattle.run_values.specs.SeenNumbers.{scene_in}
use Rattle.run_constraints.proofs.Overridden.{all_taken}
use Rattle.run_constraints.proofs.defaults.marks_of.Goals as goal

pub returns : goal.returns
returns c =
    all_taken seen_occurrence (λ (o : Occurrence). o.mark) c.loop-constraint.constraint-index c.occurrences-constraints.result.now
    (scene_in c.args.numbers.now).occurrences (omega arith) c.loop-constraint.marks c.loop-constraint.invariant
    (c.occurrences-constraints.ensures ∙ ap (λ (s : Scene). s.occurrences) c.scene.ensures)
