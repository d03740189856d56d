use Rattle.checkable_scenes.proofs.SceneParts.{ranges_are_narrow}
use Rattle.checkable_scenes.proofs.laws.ranges_are_narrow.Goals as goal

pub returns : goal.returns
returns c = ranges_are_narrow
