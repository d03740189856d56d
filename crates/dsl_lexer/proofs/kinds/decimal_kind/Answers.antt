use Rattle.std.proofs.Common.{arith}
use Rattle.dsl_lexer.proofs.Numbers.{small_whole, small_part}
use Rattle.dsl_lexer.proofs.kinds.decimal_kind.Goals as goal

pub value-requires : goal.value-requires
value-requires c = small_whole c.args.whole.now c.requires.whole (omega arith)

pub value-digits-requires : goal.value-digits-requires
value-digits-requires c = small_part c.args.whole.now c.args.part.now c.value.result c.value.ensures c.requires.whole c.requires.part (omega arith) (omega arith)
