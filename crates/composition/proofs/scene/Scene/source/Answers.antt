use Rattle.std.proofs.Common.{◌∙◌, sym, ap, Some, None, find}
use Rattle.expr_nodes.specs.osc_base.Paths.{same_path, then_duration}
use Rattle.composition.specs.declared.spot.PhaseSpot.{PhaseSpot}
use Rattle.composition.specs.SeenScenes.{seen_scene}
use Rattle.composition.proofs.Sources.{read_as}
use Rattle.composition.proofs.SpotSorts.{phases_seen}
use Rattle.composition.proofs.scene.Scene.source.Goals as goal

pub returns-in-Some : goal.returns-in-Some
returns-in-Some c =
    read_as (seen_scene c.args.self.now) c.args.path.now (Some c.in-Some.phase.now) (sym c.is_root_duration.ensures ∙ c.if-is_root_duration.false)
    (c.in-Some.ensures ∙ ap (find (λ (p : PhaseSpot). same_path (then_duration p.path) c.args.path.now)) (c.as_slice.ensures ∙ phases_seen c.args.self.now))

pub returns-in-None : goal.returns-in-None
returns-in-None c =
    read_as (seen_scene c.args.self.now) c.args.path.now None (sym c.is_root_duration.ensures ∙ c.if-is_root_duration.false)
    (c.in-None.ensures ∙ ap (find (λ (p : PhaseSpot). same_path (then_duration p.path) c.args.path.now)) (c.as_slice.ensures ∙ phases_seen c.args.self.now))
