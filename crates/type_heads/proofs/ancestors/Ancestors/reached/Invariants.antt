use Rattle.std.proofs.Common.{◌≡◌}
use Rattle.type_heads.specs.Members.{has}
use Rattle.type_heads.specs.Ancestors.{depth, line_from}
use Rattle.type_heads.proofs.ancestors.Ancestors.reached.Given as goal

abbrev pub invariant-loop-base : goal.invariant-loop-base
invariant-loop-base l = has l.base (line_from l.heads l.self.entries.items l.fn.of) ≡ has l.base (line_from l.heads l.self.entries.items l.at)

abbrev pub decreases-loop-base : goal.decreases-loop-base
decreases-loop-base l = depth l.self.entries.items l.at
