use Rattle.std.proofs.Common.{arith}
use Rattle.dsl_lexer.proofs.Numbers.{value_step}
use Rattle.dsl_lexer.proofs.kinds.value.Goals as goal

pub overflow_mul-n : goal.overflow_mul-n
overflow_mul-n c =
    let s = value_step c.args.base c.args.start c.args.digits.now c.loop-b.b-index c.requires (omega arith) in
    let t = rw (← c.loop-b.invariant) at s in
    omega arith
