use Rattle.std.proofs.Common.{◌≡◌, length}
use Rattle.linear_sums.specs.Sums.{IsClear}
use Rattle.linear_sums.specs.Twos.{IsListed}
use Rattle.linear_sums.proofs.two_slots.listed.Given as goal

-- the list has what is kept of the rules that were looked at
abbrev pub invariant-loop-number : goal.invariant-loop-number
invariant-loop-number l = record {
  long : length l.sums ≡ length l.flat.bounds.pairs;
  clear : IsClear l.sums;
  list : IsListed l.flat l.number l.list.items;
}
