use Rattle.dsl_tree.proofs.Ends.{tree_or_first_fault}
use Rattle.dsl_tree.proofs.laws.tree_or_fault.Goals as goal

pub returns : goal.returns
returns c = tree_or_first_fault
