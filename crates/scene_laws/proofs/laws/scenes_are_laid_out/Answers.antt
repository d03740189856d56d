use Rattle.scene_laws.proofs.SceneFields.{scenes_are_laid_out}
use Rattle.scene_laws.proofs.laws.scenes_are_laid_out.Goals as goal

pub returns : goal.returns
returns c = scenes_are_laid_out
