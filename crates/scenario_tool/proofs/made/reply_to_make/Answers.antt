use Rattle.scenario_tool.proofs.MadeSources.{made_loaded, made_stopped}
use Rattle.scenario_tool.proofs.made.reply_to_make.Goals as goal

pub returns-in-Loaded : goal.returns-in-Loaded
returns-in-Loaded c = made_loaded c.args.count c.in-Loaded.program c.make.result (rw c.in-Loaded.is at c.in_ok-program.ensures) c.make.ensures

pub returns-in-Stopped : goal.returns-in-Stopped
returns-in-Stopped c = made_stopped c.args.count c.in-Stopped.refusal c.refused_source.result (rw c.in-Stopped.is at c.in_ok-program.ensures) c.refused_source.ensures
