use Rattle.std.proofs.Common.{◌≡◌, take, map}
use Rattle.run_constraints.proofs.defaults.marks_of.Given as goal

abbrev pub invariant-loop-constraint : goal.invariant-loop-constraint
invariant-loop-constraint l = l.marks ≡ map (λ o. o.mark) (take l.constraint-index l.constraints)
