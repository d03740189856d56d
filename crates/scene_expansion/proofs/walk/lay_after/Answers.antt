use Rattle.scene_expansion.proofs.WalkSteps.{laid_after_step}
use Rattle.scene_expansion.proofs.walk.lay_after.Goals as goal

pub returns-clause-nodes : goal.returns-clause-nodes
returns-clause-nodes g c =
    laid_after_step c.stack_last.result (g.L.WorkLayout.types c.args.layout.now) c.args.done.now.items c.args.pending.now.items c.in_ok-parts.parts.items c.push.new.self.items c.stack_last.new.pending.items c.args.work
    c.in_ok-parts.ensures c.in_ok-push.ensures.items c.stack_last.ensures
