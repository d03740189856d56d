use Rattle.verdict_tests.proofs.Rows.{row_above}
use Rattle.verdict_tests.proofs.verdicts.above.Goals as goal

pub returns : goal.returns
returns c = row_above
