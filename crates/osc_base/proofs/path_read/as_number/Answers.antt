use Rattle.std.proofs.Common.{sym, subst}
use Rattle.std.specs.Str.Parse.{ParsesUnsigned}
use Rattle.osc_base.proofs.PathReading.{leading_none, number_parsed, digits_utf8}
use Rattle.osc_base.proofs.path_read.as_number.Goals as goal

pub returns-then-has_leading_zero : goal.returns-then-has_leading_zero
returns-then-has_leading_zero c = leading_none c.args.digits.now (sym c.if-has_leading_zero.ensures)

pub returns-in-Ok : goal.returns-in-Ok
returns-in-Ok c = rw c.ok.ensures.value (number_parsed c.args.digits.now c.parse.result c.requires (sym c.if-has_leading_zero.ensures) (subst (λ b. ParsesUnsigned 32 10 b c.parse.result) c.in-Ok.ensures.cases.0 c.parse.ensures.value.0))

pub returns-in-Err : goal.returns-in-Err
returns-in-Err c = absurd (c.in-Err.ensures.cases.0 (digits_utf8 c.args.digits.now c.requires))
