use Rattle.scenario_tool.proofs.Total.{some_answer}
use Rattle.scenario_tool.proofs.laws.some_answer.Goals as goal

pub returns : goal.returns
returns c = some_answer
