use Rattle.scenario_tool.proofs.Completeness.{decided_by_points}
use Rattle.scenario_tool.proofs.laws.decided_by_points.Goals as goal

pub returns : goal.returns
returns c = decided_by_points
