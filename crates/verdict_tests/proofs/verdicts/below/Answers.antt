use Rattle.verdict_tests.proofs.Rows.{row_below}
use Rattle.verdict_tests.proofs.verdicts.below.Goals as goal

pub returns : goal.returns
returns c = row_below
