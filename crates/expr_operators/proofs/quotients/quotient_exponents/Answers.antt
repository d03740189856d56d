use Rattle.std.proofs.Common.{ap}
use Rattle.expr_nodes.specs.Operators.{quotient_exponents}
use Rattle.expr_nodes.specs.Seen.{seen}
use Rattle.expr_operators.proofs.Exponents.{within_limits}
use Rattle.expr_operators.proofs.quotients.quotient_exponents.Goals as goal

pub returns : goal.returns
returns c = within_limits (quotient_exponents (seen c.args.left.now) (seen c.args.right.now)) c.minus.result (rw (c.exponents_of-left.ensures, c.exponents_of-right.ensures, ap (λ i. i.kind) c.info.ensures, ap (λ i. i.kind) c.info-2.ensures) at c.minus.ensures)
