use Rattle.std.proofs.Common.{arith}
use Rattle.dsl_lexer.proofs.Stamps.{dedent_step}
use Rattle.dsl_lexer.proofs.layout.push_dedents.Goals as goal

pub loop-i-preserved : goal.loop-i-preserved
loop-i-preserved c =
    let one = c.in_ok-push.ensures.one in
    let size = c.loop-i.invariant.0 in
    (omega arith, dedent_step c.args.file c.args.spot c.args.tokens.now c.loop-i.tokens c.push.new.tokens c.loop-i._i c.loop-i.invariant.0 c.loop-i.invariant.1 c.in_ok-push.ensures.pushed)
