use Rattle.std.proofs.Common.{subst, IfOk, List}
use Rattle.path_index.specs.Places.{Places}
use Rattle.flat_shapes.specs.composition.declared.spot.PhaseSpot.{PhaseSpot}
use Rattle.scene_slots.proofs.queries.phase_index.Goals as goal

pub returns : goal.returns
returns c = subst (λ (xs : List PhaseSpot). IfOk c.of.result (λ t. Places t (λ p. p) (λ c. c.path) xs)) c.phases.ensures c.of.ensures.places
