use Rattle.readable_runs.proofs.ReadableScenes.{reached_runs_can_be_read}
use Rattle.readable_runs.proofs.laws.reached_runs_can_be_read.Goals as goal

pub returns : goal.returns
returns c = reached_runs_can_be_read
