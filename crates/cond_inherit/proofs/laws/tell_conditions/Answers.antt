use Rattle.cond_inherit.proofs.ToldConditions.{told_conditions}
use Rattle.cond_inherit.proofs.laws.tell_conditions.Goals as goal

pub returns : goal.returns
returns c = told_conditions
