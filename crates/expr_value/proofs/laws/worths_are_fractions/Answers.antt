use Rattle.expr_value.proofs.Worths.{worth_above}
use Rattle.expr_value.proofs.laws.worths_are_fractions.Goals as goal

pub returns : goal.returns
returns c = λ held t sound. worth_above held t sound
