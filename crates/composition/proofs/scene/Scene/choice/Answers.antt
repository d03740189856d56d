use Rattle.std.proofs.Common.{◌∙◌, ap, find}
use Rattle.expr_nodes.specs.osc_base.Paths.{same_path}
use Rattle.composition.specs.declared.spot.ChoiceSpot.{ChoiceSpot}
use Rattle.composition.proofs.SpotSorts.{choices_seen}
use Rattle.composition.proofs.scene.Scene.choice.Goals as goal

pub returns : goal.returns
returns c = c.found.ensures ∙ ap (find (λ (s : ChoiceSpot). same_path s.path c.args.path.now)) (c.as_slice.ensures ∙ choices_seen c.args.self.now)
