use Rattle.scene_laws.proofs.SceneFields.{conditions_are_small}
use Rattle.scene_laws.proofs.laws.conditions_are_small.Goals as goal

pub returns : goal.returns
returns c = conditions_are_small
