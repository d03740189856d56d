use Rattle.verdict_tests.proofs.Rows.{row_within}
use Rattle.record_tests.proofs.rows.within.Goals as goal

pub returns : goal.returns
returns c = rw (c.in_ok-new.ensures, c.in_ok-new-2.ensures) row_within
