use Rattle.dsl_tree.proofs.OneTrees.{spelled_once}
use Rattle.dsl_tree.proofs.laws.one_tree.Goals as goal

pub returns : goal.returns
returns c = spelled_once
