use Rattle.expr_eval.specs.Known.{IsWalked}
use Rattle.expr_eval.proofs.checks.checked.Goals as goal

pub returns : goal.returns
unfolding IsWalked
returns c = c.walked.ensures
