use Rattle.program_load.proofs.Total.{some_load}
use Rattle.program_load.proofs.laws.some_load.Goals as goal

pub returns : goal.returns
returns c = some_load
