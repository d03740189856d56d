use Rattle.checkable_scenes.proofs.SceneParts.{scenes_are_limited}
use Rattle.checkable_scenes.proofs.laws.scenes_are_limited.Goals as goal

pub returns : goal.returns
returns c = scenes_are_limited
