use Rattle.std.proofs.Common.{◌∙◌}
use Rattle.composition.proofs.SpotSorts.{phases_seen}
use Rattle.composition.proofs.scene.Scene.phases.Goals as goal

pub returns : goal.returns
returns c = c.as_slice.ensures ∙ phases_seen c.args.self.now
