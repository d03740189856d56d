use Rattle.scenario_tool.proofs.Written.{written_runs}
use Rattle.scenario_tool.proofs.laws.written_runs_are_accepted.Goals as goal

pub returns : goal.returns
returns c = written_runs
