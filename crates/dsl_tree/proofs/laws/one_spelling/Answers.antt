use Rattle.dsl_tree.proofs.OneTrees.{one_spelling_holds}
use Rattle.dsl_tree.proofs.laws.one_spelling.Goals as goal

pub returns : goal.returns
returns c = one_spelling_holds
