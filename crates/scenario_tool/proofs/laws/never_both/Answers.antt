use Rattle.scenario_tool.proofs.Sole.{never_both}
use Rattle.scenario_tool.proofs.laws.never_both.Goals as goal

pub returns : goal.returns
returns c = never_both
