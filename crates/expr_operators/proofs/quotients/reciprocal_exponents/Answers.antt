use Rattle.std.proofs.Common.{ap}
use Rattle.expr_nodes.specs.Operators.{reciprocal_exponents}
use Rattle.expr_nodes.specs.Seen.{seen}
use Rattle.expr_operators.proofs.Exponents.{within_limits}
use Rattle.expr_operators.proofs.quotients.reciprocal_exponents.Goals as goal

pub returns : goal.returns
returns c = within_limits (reciprocal_exponents (seen c.args.number.now)) c.minus.result (rw (c.exponents_of.ensures, ap (λ i. i.kind) c.info.ensures) at c.minus.ensures)
