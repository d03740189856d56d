use Rattle.checkable_scenes.proofs.SceneParts.{expressions_are_typed}
use Rattle.checkable_scenes.proofs.laws.expressions_are_typed.Goals as goal

pub returns : goal.returns
returns c = expressions_are_typed
