use Rattle.scenario_tool.proofs.MadeSources.{reply_made, run_made}
use Rattle.scenario_tool.proofs.made.make_run.Goals as goal

pub returns-in-Run : goal.returns-in-Run
returns-in-Run c = run_made c.args.count _ c.in-Run.run' c.run_and_line.result (rw c.in-Run.is at c.in_ok-run.ensures) c.run_and_line.ensures

pub returns-in-Reply : goal.returns-in-Reply
returns-in-Reply c = reply_made c.args.count _ c.in-Reply.reply (rw c.in-Reply.is at c.in_ok-run.ensures)
