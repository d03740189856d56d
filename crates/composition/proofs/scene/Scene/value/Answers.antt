use Rattle.std.proofs.Common.{◌∙◌, ap, find}
use Rattle.expr_nodes.specs.osc_base.Paths.{same_path}
use Rattle.composition.specs.declared.spot.ValueSpot.{ValueSpot}
use Rattle.composition.proofs.SpotSorts.{values_seen}
use Rattle.composition.proofs.scene.Scene.value.Goals as goal

pub returns : goal.returns
returns c = c.found.ensures ∙ ap (find (λ (s : ValueSpot). same_path s.path c.args.path.now)) (c.as_slice.ensures ∙ values_seen c.args.self.now)
