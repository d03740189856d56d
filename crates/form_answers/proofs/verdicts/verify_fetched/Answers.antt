use Rattle.form_answers.proofs.Fetching.{verified_replied, stop_replied}
use Rattle.form_answers.proofs.verdicts.verify_fetched.Goals as goal

pub returns-in-Ok-clause-reply : goal.returns-in-Ok-clause-reply
returns-in-Ok-clause-reply g c = verified_replied c.args.flat.now c.args.file.now (g.H.Shelf.left c.args.shelf.now) _ _ c.in-Ok.verified c.reply_to_verified.result
    c.in-Ok.ensures.refuted c.in-Ok.ensures.undecided c.in-Ok.ensures.refused c.in-Ok.ensures.within c.in-Ok.ensures.some_text c.in-Ok.ensures.steady c.reply_to_verified.ensures

pub returns-in-Err-clause-reply : goal.returns-in-Err-clause-reply
returns-in-Err-clause-reply g c = stop_replied c.args.flat.now c.args.file.now (g.H.Shelf.left c.args.shelf.now) _ _ c.in-Err.stop c.reply_to_stop.result
    c.in-Err.ensures.bad_line c.in-Err.ensures.bad_within c.in-Err.ensures.some_bad c.in-Err.ensures.too_long c.in-Err.ensures.cause c.in-Err.ensures.steady c.reply_to_stop.ensures
