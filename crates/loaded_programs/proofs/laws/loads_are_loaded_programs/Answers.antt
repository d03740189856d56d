use Rattle.loaded_programs.proofs.LoadedPrograms.{loads_are_loaded_programs}
use Rattle.loaded_programs.proofs.laws.loads_are_loaded_programs.Goals as goal

pub returns : goal.returns
returns c = loads_are_loaded_programs
