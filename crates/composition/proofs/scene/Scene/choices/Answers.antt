use Rattle.std.proofs.Common.{◌∙◌}
use Rattle.composition.proofs.SpotSorts.{choices_seen}
use Rattle.composition.proofs.scene.Scene.choices.Goals as goal

pub returns : goal.returns
returns c = c.as_slice.ensures ∙ choices_seen c.args.self.now
