use Rattle.std.proofs.Common.{map}
use Rattle.type_heads.specs.Bodied.{seen_body}
use Rattle.type_members.specs.RowEnds.{AreRows}
use Rattle.type_members.proofs.placed.PlacedRows.of.Given as goal

abbrev pub invariant-loop-of : goal.invariant-loop-of
invariant-loop-of l = AreRows l.heads (map seen_body l.bodies) l.placed.rows.items
