use Rattle.run_answers.proofs.Loaded.{none_in}
use Rattle.run_answers.proofs.run_files.run_in.Goals as goal

pub returns-in_ok-reply_to_run_stop-in-Err : goal.returns-in_ok-reply_to_run_stop-in-Err
returns-in_ok-reply_to_run_stop-in-Err c = none_in c.args.bytes.now c.in-Err.stop c.in_ok-reply_to_run_stop-in-Err.field-0 c.in-Err.ensures c.in_ok-reply_to_run_stop-in-Err.ensures
