use Rattle.dsl_lexer.specs.Bytes.{is_digit}
use Rattle.dsl_lexer.proofs.Numbers.{run_taken, fraction_digits, unit_utf8}
use Rattle.dsl_lexer.proofs.kinds.number_kind.Goals as goal

pub decimal_kind-requires-clause-whole : goal.decimal_kind-requires-clause-whole
decimal_kind-requires-clause-whole c = rw (c.split_at.ensures.front, c.digit_run.ensures.run) (run_taken is_digit c.args.text.now)

pub decimal_kind-requires-clause-part : goal.decimal_kind-requires-clause-part
decimal_kind-requires-clause-part c = rw c.fraction_and_unit.ensures.part (fraction_digits c.split_at.result.1.now)

pub decimal_kind-requires-clause-unit : goal.decimal_kind-requires-clause-unit
decimal_kind-requires-clause-unit c = rw (c.fraction_and_unit.ensures.unit, c.split_at.ensures.back) (unit_utf8 c.args.text.now c.digit_run.result c.requires)
