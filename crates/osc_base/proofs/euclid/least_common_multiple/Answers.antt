use Rattle.std.proofs.Common.{arith}
use Rattle.osc_base.proofs.Divisors.{greatest}
use Rattle.osc_base.proofs.Multiples.{divisor_above, is_least_common_multiple}
use Rattle.osc_base.proofs.euclid.least_common_multiple.Goals as goal

pub nonzero_div-a : goal.nonzero_div-a
nonzero_div-a c = divisor_above c.args.a c.args.b c.gcd.result c.requires.first (greatest c.args.a c.args.b c.gcd.result c.gcd.ensures)

pub returns-in_err-multiple : goal.returns-in_err-multiple
returns-in_err-multiple c =
    let large = c.in_err-multiple.ensures in
    (_, is_least_common_multiple c.args.a c.args.b c.gcd.result c.requires.first (greatest c.args.a c.args.b c.gcd.result c.gcd.ensures), rw c.from_residual.ensures (λ small. large (omega arith)))

pub returns-then-multiple-le-MOST : goal.returns-then-multiple-le-MOST
returns-then-multiple-le-MOST c =
    let is = c.in_ok-multiple.ensures in
    (_, is_least_common_multiple c.args.a c.args.b c.gcd.result c.requires.first (greatest c.args.a c.args.b c.gcd.result c.gcd.ensures), (rw is.1 at c.if-multiple-le-MOST.true, is.1))

pub returns-else-multiple-le-MOST : goal.returns-else-multiple-le-MOST
returns-else-multiple-le-MOST c =
    let is = c.in_ok-multiple.ensures in let large = rw is.1 at c.if-multiple-le-MOST.false in
    (_, is_least_common_multiple c.args.a c.args.b c.gcd.result c.requires.first (greatest c.args.a c.args.b c.gcd.result c.gcd.ensures), λ small. omega arith)
