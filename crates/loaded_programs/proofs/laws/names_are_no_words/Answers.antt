use Rattle.loaded_programs.proofs.SourceTokens.{names_are_no_words}
use Rattle.loaded_programs.proofs.laws.names_are_no_words.Goals as goal

pub returns : goal.returns
returns c = names_are_no_words
