use Rattle.modifier_meaning.proofs.ScenesKept.{unfolding_keeps_scenes}
use Rattle.modifier_meaning.proofs.laws.unfolding_keeps_scenes.Goals as goal

pub returns : goal.returns
returns c = unfolding_keeps_scenes
