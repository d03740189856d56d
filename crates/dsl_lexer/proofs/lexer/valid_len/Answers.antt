use Rattle.dsl_lexer.proofs.Texts.{valid_all, valid_part}
use Rattle.dsl_lexer.proofs.lexer.valid_len.Goals as goal

pub returns-in-Ok : goal.returns-in-Ok
returns-in-Ok c = valid_all c.args.bytes.now c.in-Ok.ensures.cases.1

pub returns-in-Err : goal.returns-in-Err
returns-in-Err c = rw c.valid_up_to.ensures (valid_part c.args.bytes.now _ c.in-Err.ensures.cases.1)
