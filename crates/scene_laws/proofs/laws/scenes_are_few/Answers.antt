use Rattle.scene_laws.proofs.SceneFields.{scenes_are_few}
use Rattle.scene_laws.proofs.laws.scenes_are_few.Goals as goal

pub returns : goal.returns
returns c = scenes_are_few
