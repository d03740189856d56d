use Rattle.std.proofs.Common.{ap, ℕ}
use Rattle.work_counts.specs.declared.tally.Tally.{Tally}
use Rattle.work_counts.proofs.Sums.{one_kept}
use Rattle.work_counts.proofs.tally.Tally.rule.Goals as goal

abbrev with_rules : ℕ → ℕ → Tally
with_rules tokens rules = record { rules = rules; tokens = tokens }

pub returns : goal.returns
returns c = ap (with_rules c.args.tokens) one_kept
