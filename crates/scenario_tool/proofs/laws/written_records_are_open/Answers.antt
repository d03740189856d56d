use Rattle.scenario_tool.proofs.Written.{written_records}
use Rattle.scenario_tool.proofs.laws.written_records_are_open.Goals as goal

pub returns : goal.returns
returns c = written_records
