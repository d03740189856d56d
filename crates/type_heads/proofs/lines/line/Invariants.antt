use Rattle.std.proofs.Common.{◌≡◌, ◌++◌, length}
use Rattle.type_heads.specs.Table.{line_within}
use Rattle.type_heads.proofs.lines.line.Given as goal

abbrev pub invariant-loop-steps : goal.invariant-loop-steps
invariant-loop-steps l = l.line.items ++ line_within l.steps l.heads l.at ≡ line_within (length l.heads) l.heads l.fn.of

abbrev pub decreases-loop-steps : goal.decreases-loop-steps
decreases-loop-steps l = l.steps
