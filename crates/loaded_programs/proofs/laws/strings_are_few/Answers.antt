use Rattle.loaded_programs.proofs.SourceTokens.{strings_are_few}
use Rattle.loaded_programs.proofs.laws.strings_are_few.Goals as goal

pub returns : goal.returns
returns c = strings_are_few
