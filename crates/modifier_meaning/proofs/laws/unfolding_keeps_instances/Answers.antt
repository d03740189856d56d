use Rattle.modifier_meaning.proofs.ScenesKept.{unfolding_keeps_instances}
use Rattle.modifier_meaning.proofs.laws.unfolding_keeps_instances.Goals as goal

pub returns : goal.returns
returns c = unfolding_keeps_instances
