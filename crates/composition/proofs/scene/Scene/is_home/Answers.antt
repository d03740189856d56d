use Rattle.std.proofs.Common.{◌∙◌, ap, refl, Some, None, find}
use Rattle.expr_nodes.specs.osc_base.Paths.{same_path}
use Rattle.composition.specs.declared.part.Spot.{Spot}
use Rattle.composition.specs.Homes.{is_timed}
use Rattle.composition.specs.SeenScenes.{seen_scene}
use Rattle.composition.proofs.HomeSteps.{home_seen, timed_seen}
use Rattle.composition.proofs.scene.Scene.is_home.Goals as goal

pub returns-in-Some : goal.returns-in-Some
returns-in-Some c =
    home_seen (seen_scene c.args.self.now) c.args.self.now.spots c.args.path.now (Some c.in-Some.field-0.now) refl
    (c.in-Some.ensures ∙ ap (find (λ (s : Spot). same_path s.path c.args.path.now)) c.as_slice.ensures)

pub returns-in-None : goal.returns-in-None
returns-in-None c =
    c.is_timed.ensures ∙ timed_seen c.source.result ∙ ap is_timed c.source.ensures
    ∙ home_seen (seen_scene c.args.self.now) c.args.self.now.spots c.args.path.now None refl
    (c.in-None.ensures ∙ ap (find (λ (s : Spot). same_path s.path c.args.path.now)) c.as_slice.ensures)
