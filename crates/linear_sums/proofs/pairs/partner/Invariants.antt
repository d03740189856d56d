use Rattle.std.proofs.Common.{◌≡◌, ◌<◌, length}
use Rattle.linear_sums.specs.Sums.{IsClear}
use Rattle.linear_sums.specs.Twos.{NoPartner}
use Rattle.linear_sums.proofs.pairs.partner.Given as goal

-- the rule faces none of those that were looked at
abbrev pub invariant-loop-later : goal.invariant-loop-later
invariant-loop-later l = record {
  long : length l.sums ≡ length l.flat.bounds.pairs;
  clear : IsClear l.sums;
  after : l.place < l.later;
  none : NoPartner l.flat l.list l.place l.first l.later;
}
