use Rattle.scene_laws.proofs.SceneFields.{typed_are_sound}
use Rattle.scene_laws.proofs.laws.typed_are_sound.Goals as goal

pub returns : goal.returns
returns c = typed_are_sound
