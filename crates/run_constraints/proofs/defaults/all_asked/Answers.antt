use Rattle.std.proofs.Common.{◌∙◌, ap, arith}
use Rattle.scene_conditions.specs.composition.Scenes.{Scene}
use Rattle.scene_conditions.specs.composition.SeenParts.{seen_occurrence}
use Rattle.scene_conditions.specs.composition.There.{is_asked}
use Rattle.run_values.specs.SeenNumbers.{scene_in, run_in}
use Rattle.run_constraints.proofs.Overridden.{all_taken}
use Rattle.run_constraints.proofs.defaults.all_asked.Goals as goal

pub returns : goal.returns
returns c =
    all_taken seen_occurrence (is_asked (scene_in c.args.numbers.now) (run_in c.args.numbers.now)) c.loop-constraint.constraint-index c.occurrences-constraints.result.now
    (scene_in c.args.numbers.now).occurrences (omega arith) c.loop-constraint.flags c.loop-constraint.invariant
    (c.occurrences-constraints.ensures ∙ ap (λ (s : Scene). s.occurrences) c.scene.ensures)
