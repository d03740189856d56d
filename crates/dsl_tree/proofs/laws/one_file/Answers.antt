use Rattle.dsl_tree.proofs.OneTrees.{one_file_spelled}
use Rattle.dsl_tree.proofs.laws.one_file.Goals as goal

pub returns : goal.returns
returns c = one_file_spelled
