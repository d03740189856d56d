use Rattle.std.proofs.Common.{◌≡◌, ◌-◌, ◌<◌, List, Some, length, map}
use Rattle.type_heads.specs.Bodied.{seen_body}
use Rattle.type_heads.specs.Types.{Member}
use Rattle.type_members.specs.Ancestry.{HasEnd}
use Rattle.type_members.specs.Origins.{IsWhole}
use Rattle.type_members.proofs.rows.go_on_with_heirs.Given as goal

abbrev pub invariant-loop-last_depth : goal.invariant-loop-last_depth
invariant-loop-last_depth l = record {
  whole : (front : List Member) → IsWhole l.heads (map seen_body l.bodies) front l.fn.row l.fn.of → IsWhole l.heads (map seen_body l.bodies) front l.row l.last;
  ended : l.last_depth < length l.heads → HasEnd l.heads (Some l.last) l.last_depth;
  front : l.row.front.items ≡ l.fn.row.front.items;
  start : l.row.start ≡ l.fn.row.start;
}

abbrev pub decreases-loop-last_depth : goal.decreases-loop-last_depth
decreases-loop-last_depth l = l.most - l.last_depth
