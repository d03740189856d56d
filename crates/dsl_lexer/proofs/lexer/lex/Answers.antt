use Rattle.std.proofs.Common.{arith}
use Rattle.dsl_lexer.proofs.Taking.{has_room, reached_within}
use Rattle.dsl_lexer.proofs.Ending.{reached_end}
use Rattle.dsl_lexer.proofs.LawProofs.{end_is_last}
use Rattle.dsl_lexer.proofs.lexer.lex.Goals as goal

pub finish-requires : goal.finish-requires
finish-requires c =
    let within = reached_within c.args.file c.args.bytes.now c.valid_len-valid.result c.loop-layout.layout c.loop-layout.invariant in
    has_room c.args.file c.args.bytes.now c.valid_len-valid.result c.loop-layout.layout 0 c.loop-layout.invariant (omega arith) c.requires

pub returns-clause-tokens : goal.returns-clause-tokens
returns-clause-tokens c =
    reached_end c.args.file c.args.bytes.now c.valid_len-valid.result c.loop-layout.layout c.in_ok-finish.field-0 c.loop-layout.invariant c.valid_len-valid.ensures c.loop-layout-test.false c.in_ok-finish.ensures

pub returns-clause-end : goal.returns-clause-end
returns-clause-end c =
    end_is_last c.args.file c.args.bytes.now c.in_ok-finish.field-0
    (reached_end c.args.file c.args.bytes.now c.valid_len-valid.result c.loop-layout.layout c.in_ok-finish.field-0 c.loop-layout.invariant c.valid_len-valid.ensures c.loop-layout-test.false c.in_ok-finish.ensures)
