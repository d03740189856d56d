use Rattle.std.proofs.Common.{arith}
use Rattle.record_text.proofs.Numerals.{next_small, value_small, value_more}
use Rattle.record_text.proofs.number.value.Goals as goal

pub overflow_mul-number : goal.overflow_mul-number
overflow_mul-number c = omega (arith, c.loop-digit.invariant, next_small c.args.digits.now c.loop-digit.digit-index c.requires.digits c.requires.few c.loop-digit-test.true)

pub overflow_add-number : goal.overflow_add-number
overflow_add-number c = omega (arith, c.loop-digit.invariant, c.from.ensures, next_small c.args.digits.now c.loop-digit.digit-index c.requires.digits c.requires.few c.loop-digit-test.true)

pub loop-digit-preserved : goal.loop-digit-preserved
loop-digit-preserved c = omega (arith, c.loop-digit.invariant, c.from.ensures, value_more c.args.digits.now c.loop-digit.digit-index c.requires.digits c.loop-digit-test.true)

pub returns-clause-fits : goal.returns-clause-fits
returns-clause-fits c = omega (arith, c.loop-digit.invariant, value_small c.args.digits.now c.loop-digit.digit-index c.requires.digits c.requires.few)
