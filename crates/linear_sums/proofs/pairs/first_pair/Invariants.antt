use Rattle.std.proofs.Common.{◌≡◌, length}
use Rattle.linear_sums.specs.Sums.{IsClear}
use Rattle.linear_sums.specs.Twos.{NonePaired}
use Rattle.linear_sums.proofs.pairs.first_pair.Given as goal

-- the rules that were looked at face none
abbrev pub invariant-loop-place : goal.invariant-loop-place
invariant-loop-place l = record {
  long : length l.sums ≡ length l.flat.bounds.pairs;
  clear : IsClear l.sums;
  none : NonePaired l.flat l.list l.place;
}
