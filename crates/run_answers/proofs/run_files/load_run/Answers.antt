use Rattle.run_answers.proofs.Loaded.{stop_found, text_found}
use Rattle.run_answers.proofs.run_files.load_run.Goals as goal

pub returns-in-Ok-clause-found : goal.returns-in-Ok-clause-found
returns-in-Ok-clause-found g c = text_found (g.H.Shelf.files c.args.shelf.now) c.args.file.now _ _ c.in-Ok.bytes c.as_slice.result.now c.run_in.result
    c.in-Ok.ensures.answer c.as_slice.ensures c.run_in.ensures c.in-Ok.ensures.counts

pub returns-in_ok-reply_to_text_stop-in-Err-clause-found : goal.returns-in_ok-reply_to_text_stop-in-Err-clause-found
returns-in_ok-reply_to_text_stop-in-Err-clause-found g c = stop_found (g.H.Shelf.files c.args.shelf.now) c.args.file.now _ _ c.in-Err.stop c.in_ok-reply_to_text_stop-in-Err.field-0
    c.in-Err.ensures.answer c.in-Err.ensures.counts c.in_ok-reply_to_text_stop-in-Err.ensures
