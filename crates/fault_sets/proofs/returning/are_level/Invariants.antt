use Rattle.std.proofs.Common.{◌≡◌, drop}
use Rattle.std.specs.List.{list_all}
use Rattle.fault_sets.specs.Ranking.{is_level}
use Rattle.fault_sets.proofs.returning.are_level.Given as goal

abbrev pub invariant-loop-to : goal.invariant-loop-to
invariant-loop-to l = list_all (is_level l.count l.ranks l.of) l.next ≡ list_all (is_level l.count l.ranks l.of) (drop l.to-index l.next)
