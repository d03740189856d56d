use Rattle.scene_laws.proofs.SceneFields.{scenes_have_ranges}
use Rattle.scene_laws.proofs.laws.scenes_have_ranges.Goals as goal

pub returns : goal.returns
returns c = scenes_have_ranges
