use Rattle.std.proofs.Common.{◌≡◌}
use Rattle.instance_check.specs.run_check.RunText.{run_text}
use Rattle.command_replies.specs.Replies.{done}
use Rattle.run_answers.proofs.Answered.{none_answered, run_answered}
use Rattle.run_answers.proofs.answers.migrate.Goals as goal

pub returns-in-Run-clause-reply : goal.returns-in-Run-clause-reply
returns-in-Run-clause-reply g c = run_answered (g.H.Shelf.files c.args.shelf.now) c.args.file.now (λ run reply. reply ≡ done (run_text run)) _ _ c.in-Run.run' c.written.result
    (rw c.in-Run.is at c.in_ok-run.ensures.found) c.written.ensures

pub returns-in-Refused-clause-reply : goal.returns-in-Refused-clause-reply
returns-in-Refused-clause-reply g c = none_answered (g.H.Shelf.files c.args.shelf.now) c.args.file.now (λ run reply. reply ≡ done (run_text run)) _ _ c.in-Refused.reply
    (rw c.in-Refused.is at c.in_ok-run.ensures.found)
