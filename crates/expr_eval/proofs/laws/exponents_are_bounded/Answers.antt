use Rattle.expr_eval.proofs.Bounded.{are_bounded, quotients_are_bounded}
use Rattle.expr_eval.proofs.laws.exponents_are_bounded.Goals as goal

pub returns-clause-expressions : goal.returns-clause-expressions
returns-clause-expressions c = are_bounded

pub returns-clause-quotients : goal.returns-clause-quotients
returns-clause-quotients c = quotients_are_bounded
