use Rattle.std.proofs.Common.{◌≡◌, length}
use Rattle.search_laws.specs.linear_sums.Sums.{are_there}
use Rattle.seeded_search.proofs.sums.are_there.Given as goal

abbrev pub invariant-loop-rest : goal.invariant-loop-rest
invariant-loop-rest l = record {
  there : are_there l.flat.rules l.picks ≡ are_there l.flat.rules l.rest;
  count : l.count ≡ length l.flat.rules;
}

abbrev pub decreases-loop-rest : goal.decreases-loop-rest
decreases-loop-rest l = length l.rest
