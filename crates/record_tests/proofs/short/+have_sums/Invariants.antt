use Rattle.std.proofs.Common.{length}
use Rattle.record_tests.proofs.short.+have_sums.Given as goal

abbrev pub decreases-have_sums : goal.decreases-have_sums
decreases-have_sums l = length l.lines.now
