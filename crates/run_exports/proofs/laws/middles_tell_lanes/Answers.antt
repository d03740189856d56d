use Rattle.run_exports.proofs.Across.{middle_tells}
use Rattle.run_exports.proofs.laws.middles_tell_lanes.Goals as goal

pub returns : goal.returns
returns c = middle_tells
