use Rattle.run_texts.specs.composition.SeenScenes.{seen_scene}
use Rattle.run_answers.proofs.Answered.{run_checked}
use Rattle.run_answers.proofs.answers.check_run.Goals as goal

pub returns : goal.returns
returns c = run_checked c.args.program.now (seen_scene c.args.scene.now) c.args.run.now c.in_ok-wrong.wrong c.verdict.result c.in_ok-wrong.ensures c.verdict.ensures
