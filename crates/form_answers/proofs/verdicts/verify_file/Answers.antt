use Rattle.form_answers.proofs.Fetching.{fetched_replied, missing_replied, failed_replied}
use Rattle.form_answers.proofs.verdicts.verify_file.Goals as goal

pub returns-in-Ok-true-clause-reply : goal.returns-in-Ok-true-clause-reply
returns-in-Ok-true-clause-reply g c = fetched_replied c.args.flat.now c.args.file.now (g.H.Shelf.files c.args.shelf.now) _ _ _ _ c.verify_fetched.result
    (rw c.in-Ok-true.field-0-test at c.in-Ok-true.ensures.finds) c.in-Ok-true.ensures.steady c.verify_fetched.ensures.reply

pub returns-in-Ok-false-clause-reply : goal.returns-in-Ok-false-clause-reply
returns-in-Ok-false-clause-reply g c = missing_replied c.args.flat.now c.args.file.now (g.H.Shelf.files c.args.shelf.now) _ _ _ c.missing_file.result
    (rw c.in-Ok-false.field-0-test at c.in-Ok-false.ensures.finds) c.in-Ok-false.ensures.steady c.missing_file.ensures

pub returns-in-Err-clause-reply : goal.returns-in-Err-clause-reply
returns-in-Err-clause-reply g c = failed_replied c.args.flat.now c.args.file.now (g.H.Shelf.files c.args.shelf.now) _ _ c.failed_shelf.result
    c.in-Err.ensures.cause c.failed_shelf.ensures
