use Rattle.std.proofs.Common.{length}
use Rattle.record_tests.proofs.short.+are_short.Given as goal

abbrev pub decreases-are_short : goal.decreases-are_short
decreases-are_short l = length l.lines.now
