use Rattle.std.proofs.Common.{◌∙◌, ap}
use Rattle.scene_expansion.specs.Walks.{nodes_done}
use Rattle.scene_expansion.proofs.NamedScenes.{limits_are}
use Rattle.scene_expansion.proofs.large.is_too_large.Goals as goal

pub returns : goal.returns
returns g c =
    let before = rw c.in-Some.is at c.in_ok-before.ensures.all in
    limits_are (g.L.WorkLayout.types c.args.layout.now) c.args.of c.args.setting (nodes_done (g.L.WorkLayout.types c.args.layout.now) c.as_slice.result.now)
    (ap (nodes_done (g.L.WorkLayout.types c.args.layout.now)) c.as_slice.ensures.value ∙ before) c.in_ok-past.past c.in_ok-past.ensures
