use Rattle.dsl_tree.proofs.OneTrees.{no_tree_at_fault}
use Rattle.dsl_tree.proofs.laws.faults_spell_nothing.Goals as goal

pub returns : goal.returns
returns c = no_tree_at_fault
