use Rattle.std.proofs.Common.{length}
use Rattle.type_heads.specs.Table.{line_within}
use Rattle.type_heads.proofs.LineSteps.{line_step}
use Rattle.type_heads.proofs.lines.line.Goals as goal

pub loop-steps-preserved : goal.loop-steps-preserved
loop-steps-preserved c = line_step c.loop-steps.line.items c.push.new.self.items (line_within (length c.args.heads.now) c.args.heads.now c.args.of) c.loop-steps.steps
    c.args.heads.now c.loop-steps.at c.base-at.result c.in-Some.current c.loop-steps.invariant c.in-Some.is c.in_ok-push.ensures.items c.base-at.ensures c.loop-steps-test.true
