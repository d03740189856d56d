use Rattle.modifier_meaning.proofs.ScenesKept.{unfolding_keeps_scenarios}
use Rattle.modifier_meaning.proofs.laws.unfolding_keeps_scenarios.Goals as goal

pub returns : goal.returns
returns c = unfolding_keeps_scenarios
