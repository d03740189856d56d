use Rattle.std.proofs.Common.{◌≡◌, length}
use Rattle.run_entries.specs.composition.Arrangement.{follow as are_followed}
use Rattle.run_entries.specs.composition.Items.{times_of}
use Rattle.run_entries.specs.SeenRuns.{seen_run}
use Rattle.run_clauses.proofs.arrangement.follow.Given as goal

abbrev pub invariant-loop-rest : goal.invariant-loop-rest
invariant-loop-rest l = are_followed (times_of (seen_run l.run)) l.tick l.to l.rest ≡ are_followed (times_of (seen_run l.run)) l.fn.from l.to l.fn.phases

abbrev pub decreases-loop-rest : goal.decreases-loop-rest
decreases-loop-rest l = length l.rest
