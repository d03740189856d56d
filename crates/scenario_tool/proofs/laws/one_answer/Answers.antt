use Rattle.scenario_tool.proofs.Sole.{one_answer}
use Rattle.scenario_tool.proofs.laws.one_answer.Goals as goal

pub returns : goal.returns
returns c = one_answer
