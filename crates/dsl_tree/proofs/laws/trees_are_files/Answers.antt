use Rattle.dsl_tree.proofs.TreeFiles.{value_of_tree}
use Rattle.dsl_tree.proofs.laws.trees_are_files.Goals as goal

pub returns : goal.returns
returns c = value_of_tree
