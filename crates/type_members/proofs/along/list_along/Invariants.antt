use Rattle.std.proofs.Common.{◌≡◌, ◌≤◌, drop, length, map, take}
use Rattle.type_heads.specs.Bodied.{seen_body}
use Rattle.type_members.specs.Listed.{seen_listed}
use Rattle.type_members.specs.Listing.{listed_along}
use Rattle.type_members.proofs.along.list_along.Given as goal

abbrev pub invariant-loop-left : goal.invariant-loop-left
invariant-loop-left l = record {
  within : l.left ≤ length l.way;
  rest : map seen_listed l.members.items ≡ listed_along l.steps (map seen_body l.bodies) l.subtypes l.line (take l.left l.way) (drop l.left l.way);
}

abbrev pub decreases-loop-left : goal.decreases-loop-left
decreases-loop-left l = l.left
