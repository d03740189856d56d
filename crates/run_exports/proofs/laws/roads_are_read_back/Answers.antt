use Rattle.run_exports.proofs.XodrBack.{xodr_back}
use Rattle.run_exports.proofs.laws.roads_are_read_back.Goals as goal

pub returns : goal.returns
returns c = xodr_back
