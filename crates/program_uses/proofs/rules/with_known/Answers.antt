use Rattle.program_uses.proofs.RowSteps.{known_from}
use Rattle.program_uses.proofs.rules.with_known.Goals as goal

pub returns : goal.returns
returns c = known_from c.args.first c.least.result c.args.known.now c.least.ensures
