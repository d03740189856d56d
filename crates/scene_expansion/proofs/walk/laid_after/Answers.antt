use Rattle.std.proofs.Common.{map, arith}
use Rattle.scene_expansion.specs.SeenWorks.{seen_work}
use Rattle.scene_expansion.specs.Walks.{whole_after}
use Rattle.scene_expansion.proofs.WalkSteps.{many_after}
use Rattle.scene_expansion.proofs.walk.laid_after.Goals as goal

pub returns-clause-many : goal.returns-clause-many
returns-clause-many g c =
    λ none. many_after (g.L.WorkLayout.types c.args.layout.now) c.loop-laid.done.items c.loop-laid.pending.items
    (whole_after (g.L.WorkLayout.types c.args.layout.now) (seen_work c.args.root) (map seen_work c.args.parts.items)) c.loop-laid._laid
    c.loop-laid.invariant.nodes c.loop-laid.invariant.laid (omega arith)
