use Rattle.record_trees.proofs.Empty.{refutation_empty}
use Rattle.record_trees.proofs.record.refuted.Goals as goal

pub returns : goal.returns
returns c = refutation_empty c.args.flat.now c.args.claim.now
