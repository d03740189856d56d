use Rattle.run_exports.proofs.XoscBack.{xosc_back}
use Rattle.run_exports.proofs.laws.trajectories_are_read_back.Goals as goal

pub returns : goal.returns
returns c = xosc_back
