use Rattle.std.proofs.Common.{map}
use Rattle.scene_expansion.specs.SeenWorks.{seen_work}
use Rattle.scene_expansion.proofs.WholeScenes.{after_all, after_many}
use Rattle.scene_expansion.proofs.whole.all_after.Goals as goal

pub returns-clause-all : goal.returns-clause-all
returns-clause-all g c =
    after_all (g.L.WorkLayout.types c.args.layout.now) c.args.of (seen_work c.in_ok-root.root) (map seen_work c.in_ok-parts.parts.items) c.in_ok-root.ensures c.in_ok-parts.ensures
    c.laid_after.result (λ ws. ws.items) c.laid_after.ensures.all

pub returns-clause-many : goal.returns-clause-many
returns-clause-many g c =
    after_many (g.L.WorkLayout.types c.args.layout.now) c.args.of (seen_work c.in_ok-root.root) (map seen_work c.in_ok-parts.parts.items) c.in_ok-root.ensures c.in_ok-parts.ensures
    c.laid_after.result (λ ws. ws.items) c.laid_after.ensures.many
