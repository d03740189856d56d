use Rattle.program_load.proofs.Sole.{one_load}
use Rattle.program_load.proofs.laws.one_load.Goals as goal

pub returns : goal.returns
returns c = one_load
