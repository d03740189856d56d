use Rattle.std.proofs.Common.{length}
use Rattle.dsl_cursor.proofs.Loops.{Along}
use Rattle.dsl_cursor.proofs.rows.with_items.Given as goal

abbrev pub invariant-items : goal.invariant-items
invariant-items g l = Along g.T.Item.tail g.T.Item.rest l.fn.begun l.row l.fn.tokens l.tokens

abbrev pub decreases-items : goal.decreases-items
decreases-items g l = length l.tokens
