use Rattle.verdict_tests.proofs.Rows.{row_below}
use Rattle.record_tests.proofs.rows.below.Goals as goal

pub returns : goal.returns
returns c = row_below
