use Rattle.std.proofs.Common.{◌≡◌, drop}
use Rattle.fault_sets.specs.Ranking.{falls}
use Rattle.fault_sets.proofs.returning.falls.Given as goal

abbrev pub invariant-loop-to : goal.invariant-loop-to
invariant-loop-to l = falls l.ranks l.of l.next ≡ falls l.ranks l.of (drop l.to-index l.next)
