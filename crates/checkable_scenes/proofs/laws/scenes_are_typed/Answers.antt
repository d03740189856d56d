use Rattle.checkable_scenes.proofs.SceneParts.{scenes_are_typed}
use Rattle.checkable_scenes.proofs.laws.scenes_are_typed.Goals as goal

pub returns : goal.returns
returns c = scenes_are_typed
