use Rattle.scenario_tool.proofs.Completeness.{sound_outcomes}
use Rattle.scenario_tool.proofs.laws.sound_inputs_have_outcomes.Goals as goal

pub returns : goal.returns
returns c = sound_outcomes
