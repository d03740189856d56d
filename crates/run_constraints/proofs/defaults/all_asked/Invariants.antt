use Rattle.std.proofs.Common.{◌≡◌, take, map}
use Rattle.scene_conditions.specs.composition.SeenParts.{seen_occurrence}
use Rattle.scene_conditions.specs.composition.There.{is_asked}
use Rattle.run_values.specs.SeenNumbers.{scene_in, run_in}
use Rattle.run_constraints.proofs.defaults.all_asked.Given as goal

abbrev pub invariant-loop-constraint : goal.invariant-loop-constraint
invariant-loop-constraint l = l.flags ≡ map (λ o. is_asked (scene_in l.numbers) (run_in l.numbers) (seen_occurrence o)) (take l.constraint-index l.constraints)
