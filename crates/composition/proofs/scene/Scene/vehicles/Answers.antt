use Rattle.std.proofs.Common.{◌∙◌}
use Rattle.composition.proofs.SpotSorts.{vehicles_seen}
use Rattle.composition.proofs.scene.Scene.vehicles.Goals as goal

pub returns : goal.returns
returns c = c.as_slice.ensures ∙ vehicles_seen c.args.self.now
