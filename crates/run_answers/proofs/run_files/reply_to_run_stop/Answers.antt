use Rattle.run_answers.proofs.Loaded.{shape_told}
use Rattle.run_answers.proofs.run_files.reply_to_run_stop.Goals as goal

pub returns-in-BadShape : goal.returns-in-BadShape
returns-in-BadShape c = shape_told c.in-BadShape.pointer c.as_str.result.now c.args.stop.now c.text_refused-in-BadShape.result c.in-BadShape.is c.as_str.ensures c.text_refused-in-BadShape.ensures
