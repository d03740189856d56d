use Rattle.std.proofs.Common.{◌≡◌, ◌++◌, drop, flat_map}
use Rattle.fault_sets.proofs.reach.all_next.Given as goal

abbrev pub invariant-loop-of : goal.invariant-loop-of
invariant-loop-of g l = flat_map (g.S.Steps.next l.steps) l.types ≡ l.next.items ++ flat_map (g.S.Steps.next l.steps) (drop l.of-index l.types)
