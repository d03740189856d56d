use Rattle.std.proofs.Common.{◌∙◌, ap, true, false}
use Rattle.program_calls.specs.composition.SeenScenes.{seen_scene}
use Rattle.scene_expansion.specs.Walks.{nodes_done}
use Rattle.scene_expansion.proofs.NamedScenes.{judged, scene_is}
use Rattle.scene_expansion.proofs.named.scene_of.Goals as goal

pub returns-then-past : goal.returns-then-past
returns-then-past g c =
    let before = rw c.in-Some.is at c.in_ok-before.ensures.all in
    judged (g.L.WorkLayout.types c.args.layout.now) c.args.of c.args.setting (nodes_done (g.L.WorkLayout.types c.args.layout.now) c.as_slice.result.now)
    (ap (nodes_done (g.L.WorkLayout.types c.args.layout.now)) c.as_slice.ensures.value ∙ before) c.in_ok-past.past true c.in_ok-past.ensures c.if-past.true

pub returns : goal.returns
returns g c =
    let before = rw c.in-Some.is at c.in_ok-before.ensures.all in
    let after = rw c.in-Some-2.is at c.in_ok-after.ensures.all in (
      judged (g.L.WorkLayout.types c.args.layout.now) c.args.of c.args.setting (nodes_done (g.L.WorkLayout.types c.args.layout.now) c.as_slice.result.now)
          (ap (nodes_done (g.L.WorkLayout.types c.args.layout.now)) c.as_slice.ensures.value ∙ before) c.in_ok-past.past false c.in_ok-past.ensures c.if-past.false,
      scene_is (g.L.WorkLayout.types c.args.layout.now) c.args.of c.args.setting (nodes_done (g.L.WorkLayout.types c.args.layout.now) c.as_slice-2.result.now)
          (ap (nodes_done (g.L.WorkLayout.types c.args.layout.now)) c.as_slice-2.ensures.value ∙ before) (nodes_done (g.L.WorkLayout.types c.args.layout.now) c.as_slice-3.result.now) (seen_scene c.in_ok-scene.scene)
          (ap (nodes_done (g.L.WorkLayout.types c.args.layout.now)) c.as_slice-3.ensures.value ∙ after) c.in_ok-scene.ensures,
    )
