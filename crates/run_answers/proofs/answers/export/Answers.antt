use Rattle.std.proofs.Common.{◌≡◌}
use Rattle.run_texts.specs.composition.SeenScenes.{seen_scene}
use Rattle.instance_check.specs.run_check.Answers.{first_wrong}
use Rattle.run_answers.specs.Exports.{export_verdict}
use Rattle.run_answers.proofs.Answered.{none_answered, run_answered}
use Rattle.run_answers.proofs.answers.export.Goals as goal

pub returns-in-Run-clause-reply : goal.returns-in-Run-clause-reply
returns-in-Run-clause-reply g c = run_answered (g.H.Shelf.files c.args.shelf.now) c.args.file.now
    (λ run reply. reply ≡ export_verdict c.args.style.form c.args.style.road c.args.style.left.now c.args.program.now run (first_wrong (seen_scene c.args.scene.now) run)) _ _
    c.in-Run.run' c.export_run.result (rw c.in-Run.is at c.in_ok-run.ensures.found) c.export_run.ensures

pub returns-in-Refused-clause-reply : goal.returns-in-Refused-clause-reply
returns-in-Refused-clause-reply g c = none_answered (g.H.Shelf.files c.args.shelf.now) c.args.file.now
    (λ run reply. reply ≡ export_verdict c.args.style.form c.args.style.road c.args.style.left.now c.args.program.now run (first_wrong (seen_scene c.args.scene.now) run)) _ _
    c.in-Refused.reply (rw c.in-Refused.is at c.in_ok-run.ensures.found)
