use Rattle.checkable_scenes.proofs.SceneParts.{modifiers_are_sound}
use Rattle.checkable_scenes.proofs.laws.modifiers_are_sound.Goals as goal

pub returns : goal.returns
returns c = modifiers_are_sound
