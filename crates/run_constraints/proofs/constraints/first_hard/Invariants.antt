use Rattle.std.proofs.Common.{◌≡◌, length, true, map}
use Rattle.std.specs.Prelude.{find}
use Rattle.std.specs.List.{list_all}
use Rattle.scene_conditions.specs.composition.SeenParts.{seen_occurrence}
use Rattle.scene_conditions.specs.composition.Scenes.{Occurrence}
use Rattle.run_constraints.specs.FirstConstraints.{fails_hard, is_sound_part}
use Rattle.run_values.specs.SeenNumbers.{scene_in, run_in}
use Rattle.run_constraints.proofs.constraints.first_hard.Given as goal

abbrev pub invariant-loop-rest : goal.invariant-loop-rest
invariant-loop-rest l =
    (find (fails_hard (scene_in l.numbers) (run_in l.numbers)) (map seen_occurrence l.rest) ≡ find (fails_hard (scene_in l.numbers) (run_in l.numbers)) (scene_in l.numbers).occurrences)
    × (list_all (λ (o : Occurrence). is_sound_part (scene_in l.numbers) o.typed) (map seen_occurrence l.rest) ≡ true)

abbrev pub decreases-loop-rest : goal.decreases-loop-rest
decreases-loop-rest l = length l.rest
