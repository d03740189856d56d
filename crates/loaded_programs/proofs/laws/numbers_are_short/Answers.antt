use Rattle.loaded_programs.proofs.SourceTokens.{numbers_are_short}
use Rattle.loaded_programs.proofs.laws.numbers_are_short.Goals as goal

pub returns : goal.returns
returns c = numbers_are_short
