use Rattle.std.proofs.Common.{◌≡◌, ◌++◌, ◌≤◌, ◌+◌, map, length}
use Rattle.linear_sums.specs.Sums.{are_there}
use Rattle.record_text.specs.Picked.{seen_pick}
use Rattle.refute_check.proofs.sums.picks_of.Given as goal

-- what is taken, and what is left, make all; and what is taken is there
abbrev pub invariant-loop-rest : goal.invariant-loop-rest
invariant-loop-rest l = record {
  all : l.own.items ++ map seen_pick l.rest ≡ l.picks;
  there : are_there l.flat.rules l.picks ≡ are_there l.flat.rules (map seen_pick l.rest);
  count : l.count ≡ length l.flat.rules;
  few : length l.own.items + length l.rest ≤ 64;
}

abbrev pub decreases-loop-rest : goal.decreases-loop-rest
decreases-loop-rest l = length l.rest
