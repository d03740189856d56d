use Rattle.program_load.proofs.SourceReading.{ended}
use Rattle.load_tests.proofs.trees.spelled_again.Goals as goal

pub parse-requires : goal.parse-requires
parse-requires g c = record { ended = ended c.in-Ok.tokens c.in-Ok.ensures.end }
