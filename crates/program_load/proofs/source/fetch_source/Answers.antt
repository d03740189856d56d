use Rattle.program_load.proofs.Fetching.{stops_found}
use Rattle.program_load.proofs.source.fetch_source.Goals as goal

pub returns-in-Ok-true-clause-stops : goal.returns-in-Ok-true-clause-stops
returns-in-Ok-true-clause-stops g c = stops_found _ _ _ c.read_source.result (rw c.in-Ok-true.field-0-test at c.in-Ok-true.ensures.finds) c.read_source.ensures.stops
