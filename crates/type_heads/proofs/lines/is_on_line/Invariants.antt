use Rattle.std.proofs.Common.{◌≡◌, length, nat_eq}
use Rattle.std.specs.List.{list_any}
use Rattle.type_heads.specs.Table.{line_within}
use Rattle.type_heads.proofs.lines.is_on_line.Given as goal

abbrev pub invariant-loop-steps : goal.invariant-loop-steps
invariant-loop-steps l = list_any (nat_eq l.base) (line_within (length l.heads) l.heads l.fn.of) ≡ list_any (nat_eq l.base) (line_within l.steps l.heads l.at)

abbrev pub decreases-loop-steps : goal.decreases-loop-steps
decreases-loop-steps l = l.steps
