use Rattle.loaded_programs.proofs.FormedTrees.{trees_are_short}
use Rattle.loaded_programs.proofs.laws.trees_are_short.Goals as goal

pub returns : goal.returns
returns c = trees_are_short
