use Rattle.std.proofs.Common.{◌≡◌, length}
use Rattle.run_entries.specs.composition.SeenScenes.{seen_scene}
use Rattle.run_entries.specs.composition.There.{is_there}
use Rattle.run_entries.specs.SeenRuns.{seen_run}
use Rattle.run_clauses.specs.Listing.{first_unlisted}
use Rattle.run_clauses.proofs.listing.first_unlisted.Given as goal

abbrev pub invariant-loop-rest : goal.invariant-loop-rest
invariant-loop-rest g l =
    first_unlisted (is_there (seen_scene l.scene) (seen_run l.run)) g.T.Standing.stands_at g.U.Standing.stands_at l.rest l.left
    ≡ first_unlisted (is_there (seen_scene l.scene) (seen_run l.run)) g.T.Standing.stands_at g.U.Standing.stands_at l.fn.wanted l.fn.given

abbrev pub decreases-loop-rest : goal.decreases-loop-rest
decreases-loop-rest g l = length l.rest
