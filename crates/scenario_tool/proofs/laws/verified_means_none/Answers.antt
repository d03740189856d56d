use Rattle.scenario_tool.proofs.Verified.{verified_means_none}
use Rattle.scenario_tool.proofs.laws.verified_means_none.Goals as goal

pub returns : goal.returns
returns c = verified_means_none
