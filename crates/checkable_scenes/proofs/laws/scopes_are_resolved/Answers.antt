use Rattle.checkable_scenes.proofs.SceneParts.{scopes_are_resolved}
use Rattle.checkable_scenes.proofs.laws.scopes_are_resolved.Goals as goal

pub returns : goal.returns
returns c = scopes_are_resolved
