use Rattle.expr_eval.proofs.TypedForms.{typed_or_refused}
use Rattle.expr_eval.proofs.laws.typed_or_refused.Goals as goal

pub returns : goal.returns
returns c = typed_or_refused
