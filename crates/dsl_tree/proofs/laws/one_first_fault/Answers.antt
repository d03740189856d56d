use Rattle.dsl_tree.proofs.Ends.{one_first_fault}
use Rattle.dsl_tree.proofs.laws.one_first_fault.Goals as goal

pub returns : goal.returns
returns c = one_first_fault
