use Rattle.loaded_programs.proofs.FormedTrees.{texts_are_few}
use Rattle.loaded_programs.proofs.laws.texts_are_few.Goals as goal

pub returns : goal.returns
returns c = texts_are_few
