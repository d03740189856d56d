use Rattle.program_load.proofs.SourceReading.{ended}
use Rattle.diagnostics.proofs.expected.first_dead.Goals as goal

pub parse-requires : goal.parse-requires
parse-requires c = record { ended = ended c.in-Ok.tokens c.in-Ok.ensures.end }
