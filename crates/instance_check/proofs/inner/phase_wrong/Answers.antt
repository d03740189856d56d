use Rattle.std.proofs.Common.{Some, None}
use Rattle.run_check.specs.composition.SeenScenes.{seen_scene}
use Rattle.run_constraints.specs.run_entries.SeenRuns.{seen_run}
use Rattle.run_constraints.specs.run_values.SeenNumbers.{scene_in, run_in}
use Rattle.instance_check.proofs.Inside.{told, phase_told}
use Rattle.instance_check.proofs.inner.phase_wrong.Goals as goal

pub returns-in-Some : goal.returns-in-Some
returns-in-Some c =
    told c.wrong.result _ _ c.wrong.ensures
    (phase_told (scene_in c.args.numbers.now) (seen_scene c.scene.result.now) (run_in c.args.numbers.now) (seen_run c.run.result.now) (Some c.in-Some.phase.now)
    c.scene.ensures c.run.ensures c.in-Some.ensures)

pub returns-in-None : goal.returns-in-None
returns-in-None c =
    phase_told (scene_in c.args.numbers.now) (seen_scene c.scene.result.now) (run_in c.args.numbers.now) (seen_run c.run.result.now) None
    c.scene.ensures c.run.ensures c.in-None.ensures
