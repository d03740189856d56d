use Rattle.std.proofs.Common.{◌≡◌, length, map}
use Rattle.type_heads.specs.Bodied.{seen_body}
use Rattle.type_members.specs.RowEnds.{AreRows}
use Rattle.type_members.proofs.RowPlaces.{AreAt}
use Rattle.type_members.proofs.placed.all_spans.Given as goal

abbrev pub invariant-loop-number : goal.invariant-loop-number
invariant-loop-number l = record {
  rows : AreRows l.heads (map seen_body l.bodies) l.placed.rows.items;
  places : AreAt l.heads (map seen_body l.bodies) l.placed.rows.items 0 l.spans.items;
  count : length l.spans.items ≡ l.number;
}
