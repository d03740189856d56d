use Rattle.std.proofs.Common.{◌∙◌}
use Rattle.composition.proofs.SpotSorts.{values_seen}
use Rattle.composition.proofs.scene.Scene.values.Goals as goal

pub returns : goal.returns
returns c = c.as_slice.ensures ∙ values_seen c.args.self.now
