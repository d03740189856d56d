use Rattle.std.proofs.Common.{◌≡◌, length, pos}
use Rattle.run_entries.specs.composition.Arrangement.{starts_of}
use Rattle.run_entries.specs.composition.Items.{times_of}
use Rattle.run_entries.specs.SeenRuns.{seen_run}
use Rattle.run_clauses.specs.Latest.{latest}
use Rattle.run_clauses.proofs.arrangement.latest_start.Given as goal

abbrev pub invariant-loop-rest : goal.invariant-loop-rest
invariant-loop-rest l = latest l.tick (starts_of (times_of (seen_run l.run)) l.rest) ≡ latest (pos 0) (starts_of (times_of (seen_run l.run)) l.fn.phases)

abbrev pub decreases-loop-rest : goal.decreases-loop-rest
decreases-loop-rest l = length l.rest
