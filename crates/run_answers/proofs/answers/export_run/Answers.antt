use Rattle.run_texts.specs.composition.SeenScenes.{seen_scene}
use Rattle.run_answers.specs.Exports.{export_verdict}
use Rattle.run_answers.proofs.Answered.{run_judged}
use Rattle.run_answers.proofs.answers.export_run.Goals as goal

pub returns : goal.returns
returns c =
    run_judged (export_verdict c.args.style.form c.args.style.road c.args.style.left.now c.args.program.now c.args.run.now) (seen_scene c.args.scene.now) c.args.run.now
    c.in_ok-wrong.wrong c.exported.result c.in_ok-wrong.ensures c.exported.ensures
