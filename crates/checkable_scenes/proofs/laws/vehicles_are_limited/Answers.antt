use Rattle.checkable_scenes.proofs.SceneParts.{vehicles_are_limited}
use Rattle.checkable_scenes.proofs.laws.vehicles_are_limited.Goals as goal

pub returns : goal.returns
returns c = vehicles_are_limited
