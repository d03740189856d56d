use Rattle.std.proofs.Common.{subst}
use Rattle.dsl_cursor.specs.Words.{Ended}
use Rattle.dsl_cursor.proofs.Lengths.{end_taken}
use Rattle.dsl_cursor.proofs.tokens.Cursor.expect_end.Goals as goal

pub returns-in-End : goal.returns-in-End
returns-in-End c = end_taken _ _ _ c.split.ensures (subst Ended c.self.view_is c.self.invariant) c.in-End.is
