use Rattle.std.proofs.Common.{◌∙◌, ap, find}
use Rattle.expr_nodes.specs.osc_base.Paths.{same_path}
use Rattle.composition.specs.declared.spot.PhaseSpot.{PhaseSpot}
use Rattle.composition.proofs.SpotSorts.{phases_seen}
use Rattle.composition.proofs.scene.Scene.phase.Goals as goal

pub returns : goal.returns
returns c = c.found.ensures ∙ ap (find (λ (s : PhaseSpot). same_path s.path c.args.path.now)) (c.as_slice.ensures ∙ phases_seen c.args.self.now)
