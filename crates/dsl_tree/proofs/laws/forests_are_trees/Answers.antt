use Rattle.dsl_tree.proofs.Inverse.{tree_of}
use Rattle.dsl_tree.proofs.laws.forests_are_trees.Goals as goal

pub returns : goal.returns
returns c = tree_of
