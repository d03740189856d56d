use Rattle.work_counts.proofs.Sums.{kept_none}
use Rattle.work_counts.proofs.tally.Tally.none.Goals as goal

pub returns : goal.returns
returns c = kept_none
