use Rattle.std.proofs.Common.{◌≡◌}
use Rattle.osc_base.specs.LowestTerms.{gcd as divisor}
use Rattle.osc_base.proofs.euclid.gcd.Given as goal

abbrev pub invariant-loop-y : goal.invariant-loop-y
invariant-loop-y l = divisor l.x l.y ≡ divisor l.fn.a l.fn.b

abbrev pub decreases-loop-y : goal.decreases-loop-y
decreases-loop-y l = l.y
