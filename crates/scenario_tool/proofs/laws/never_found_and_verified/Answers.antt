use Rattle.scenario_tool.proofs.Verified.{never_found_and_verified}
use Rattle.scenario_tool.proofs.laws.never_found_and_verified.Goals as goal

pub returns : goal.returns
returns c = never_found_and_verified
