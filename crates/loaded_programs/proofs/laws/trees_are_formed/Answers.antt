use Rattle.loaded_programs.proofs.FormedTrees.{trees_are_formed}
use Rattle.loaded_programs.proofs.laws.trees_are_formed.Goals as goal

pub returns : goal.returns
returns c = trees_are_formed
