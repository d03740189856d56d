use Rattle.fault_sets.specs.Ranking.{AreNext}
use Rattle.fault_sets.proofs.returning.all_next.Given as goal

abbrev pub invariant-loop-number : goal.invariant-loop-number
invariant-loop-number g l = AreNext l.number (g.S.Steps.next l.steps) l.all.items
