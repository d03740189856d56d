use Rattle.run_check.proofs.NoFloat.{written}
use Rattle.run_check.proofs.run_text.compact.Goals as goal

pub returns : goal.returns
returns c = written c.args.run.now _ _ c.in_ok-json.ensures c.to_string.ensures.text
