use Rattle.scenario_tool.proofs.Written.{written_refutations}
use Rattle.scenario_tool.proofs.laws.written_refutations_are_accepted.Goals as goal

pub returns : goal.returns
returns c = written_refutations
