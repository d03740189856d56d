use Rattle.scene_laws.proofs.SceneFields.{conditions_are_grounded}
use Rattle.scene_laws.proofs.laws.conditions_are_grounded.Goals as goal

pub returns : goal.returns
returns c = conditions_are_grounded
